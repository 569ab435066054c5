-- Laws of `overwrite`: for writers (a store more, the length, a lent part), for calls in a row, and for both buffers at once. Assumes nothing.
use Prim.Native.Nat.{ℕ, ◌+◌, ◌-◌, ◌≤◌, min}
use native.Mathlib.Omega.{arith}
use native.Mathlib.Nat.{add-zero}
use mathlib.Core.Path.{◌≡◌, sym, ap, ap₂, ◌∙◌}
use mathlib.Core.List.{List, [], ◌++◌, append_assoc, append-nil}
use lib.ListN.{length, take, drop, length-append, length-take, length-drop, take-append-drop, drop_of_length-le}
use borrow.Rule.Slice.PartMut.{mid_of, post_of, put_mid}
use lib.Seq.{drop-drop, drop-append-add, take_at, length-take-le, take_all}
use Rattle.line.specs.Line.{Symbol, capture, octets_of, marks_of, overwrite}
use Rattle.line.proofs.Buffers.{capture-append, capture_of, take-capture, drop-capture, length-octets_of, length-marks_of}

module _ {A : Type 0} where
  -- nothing written
  pub overwrite-none : (l : List A) (at : ℕ) → overwrite l at [] ≡ l
  unfolding overwrite
  overwrite-none l at = ap₂ (λ (a b : List A). a ++ b) (append-nil (take at l)) (ap (λ (k : ℕ). drop k l) (add-zero at)) ∙ take-append-drop at l

  pub length-overwrite : (l : List A) (at : ℕ) (new : List A) → at + length new ≤ length l → length (overwrite l at new) ≡ length l
  unfolding overwrite
  length-overwrite l at new h =
      let t = length-take-le at l (omega arith) in
      let d = length-drop (at + length new) l in
      length-append (take at l ++ new) (drop (at + length new) l)
      ∙ ap (λ (k : ℕ). k + length (drop (at + length new) l)) (length-append (take at l) new)
      ∙ omega arith

  -- through the part from a place on
  pub overwrite-part : (l : List A) (at : ℕ) (new : List A) → take at l ++ overwrite (drop at l) 0 new ≡ overwrite l at new
  unfolding overwrite
  overwrite-part l at new =
      ap (λ (t : List A). take at l ++ (new ++ t)) (drop-drop (0 + length new) at l ∙ ap (λ (j : ℕ). drop j l) (let e : at + (0 + length new) ≡ at + length new = omega arith in e))
      ∙ sym (append_assoc (take at l) new (drop (at + length new) l))

-- what the borrow checker leaves of a `&mut s[at..]` that was lent: `ys` came back in its place
pub put-part : (l : List ℕ) (at : ℕ) (new ys : List ℕ) → at ≤ length l → ys ≡ overwrite (mid_of at (length l - at) l) 0 new
    → put_mid at (length l - at) l ys ≡ overwrite l at new
put-part l at new ys h e =
    let d : length (drop at l) ≡ length l - at = length-drop at l in
    let mid : mid_of at (length l - at) l ≡ drop at l = take_all (length l - at) (drop at l) (omega arith) in
    let post : post_of at (length l - at) l ≡ [] = drop_of_length-le (drop at l) {i = length l - at} (omega arith) in
    ap₂ (λ (a b : List ℕ). take at l ++ (a ++ b)) (e ∙ ap (λ (m : List ℕ). overwrite m 0 new) mid) post
    ∙ ap (λ (t : List ℕ). take at l ++ t) (append-nil (overwrite (drop at l) 0 new))
    ∙ overwrite-part l at new

-- writing, and writing on where that ended, is writing both
pub overwrite-overwrite : {A : Type 0} (c : List A) (p : ℕ) (x y : List A) → p + length x ≤ length c → overwrite (overwrite c p x) (p + length x) y ≡ overwrite c p (x ++ y)
unfolding overwrite
overwrite-overwrite c p x y h =
    let n : length (take p c ++ x) ≡ p + length x = length-append (take p c) x ∙ ap (λ (k : ℕ). k + length x) (length-take-le p c (omega arith)) in
    ap₂ (λ (a b : List _). a ++ y ++ b)
    (take_at (take p c ++ x) (drop (p + length x) c) (p + length x) n)
    (ap (λ (k : ℕ). drop (k + length y) (take p c ++ x ++ drop (p + length x) c)) (sym n)
    ∙ drop-append-add (take p c ++ x) (drop (p + length x) c) (length y) ∙ drop-drop (length y) (p + length x) c)
    ∙ ap₂ (λ (a b : List _). a ++ b) (append_assoc (take p c) x y)
    (ap (λ (k : ℕ). drop k c) (let e = length-append x y in let g : p + length x + length y ≡ p + length (x ++ y) = omega arith in g))

-- writing into both buffers is writing into the capture
pub capture-overwrite : (os ms : List ℕ) (at : ℕ) (new : List Symbol) → length os ≡ length ms
    → capture (overwrite os at (octets_of new)) (overwrite ms at (marks_of new)) ≡ overwrite (capture os ms) at new
unfolding overwrite
capture-overwrite os ms at new e =
    let eo : length (octets_of new) ≡ length new = length-octets_of new in
    let em : length (marks_of new) ≡ length new = length-marks_of new in
    let et : length (take at os) ≡ length (take at ms) = simp length-take (ap (min at) e) in
    ap₂ (λ (a b : ℕ). capture (take at os ++ octets_of new ++ drop (at + a) os) (take at ms ++ marks_of new ++ drop (at + b) ms)) eo em
    ∙ capture-append (take at os ++ octets_of new) (drop (at + length new) os) (take at ms ++ marks_of new) (drop (at + length new) ms)
    (simp length-append (omega arith))
    ∙ ap₂ (λ (a b : List Symbol). a ++ b)
    (capture-append (take at os) (octets_of new) (take at ms) (marks_of new) et ∙ ap₂ (λ (a b : List Symbol). a ++ b) (sym (take-capture at os ms)) (capture_of new))
    (sym (drop-capture (at + length new) os ms))
