-- Sixteen octets over a record of a log: what stands there then, and around it. Assumes nothing.
use Prim.Native.Nat.{ℕ, zero, suc, ◌+◌, ◌-◌, ◌*◌, ◌/◌, ◌≤◌, ◌<◌}
use native.Mathlib.Omega.{arith}
use mathlib.Core.Path.{◌≡◌, sym, ap, ap₂, ◌∙◌}
use mathlib.Core.Bool.{true}
use mathlib.Core.List.{List, [], ◌∷◌, ◌++◌, append_assoc}
use lib.ListN.{length, take, drop, length-append, length-drop, take-append-drop}
use lib.Seq.{take_at, drop_at, drop-append-add, drop-drop, take-append-le, take-take, take-add, length-take-le}
use Rattle.line.specs.Limits.{record_size}
use Rattle.line.specs.Line.{overwrite}
use Rattle.line.proofs.Overwrite.{length-overwrite}
use Rattle.reading_log.specs.Log.{is_used, slot_at, slots_in, slots, used_ones, extent}
use Rattle.reading_log.proofs.Used.{used_keep, used-append, used_beyond, used-up_to}
use Rattle.reading_log.proofs.Searches.{length_slot, extent-holds, extent-is}

-- ---- what is written over a list, and what stands around it

pub take-over : (l : List ℕ) (at : ℕ) (s : List ℕ) (m : ℕ) → at ≤ length l → at + length s ≡ m → take m (overwrite l at s) ≡ take at l ++ s
unfolding overwrite
take-over l at s m h e =
    take_at (take at l ++ s) (drop (at + length s) l) m (length-append (take at l) s ∙ (let t = length-take-le at l h in omega arith))

pub drop-over : (l : List ℕ) (at : ℕ) (s : List ℕ) (m : ℕ) → at ≤ length l → at + length s ≤ m → drop m (overwrite l at s) ≡ drop m l
unfolding overwrite
drop-over l at s m h g =
    let t = length-take-le at l h in
    let n = length-append (take at l) s in
    let d : ℕ = m - (at + length s) in
    ap (λ (k : ℕ). drop k (take at l ++ s ++ drop (at + length s) l)) (let e : m ≡ length (take at l ++ s) + d = omega arith in e)
    ∙ drop-append-add (take at l ++ s) (drop (at + length s) l) d
    ∙ drop-drop d (at + length s) l
    ∙ ap (λ (k : ℕ). drop k l) (let e : at + length s + d ≡ m = omega arith in e)

take-before : (l : List ℕ) (at : ℕ) (s : List ℕ) (m : ℕ) → m ≤ at → at ≤ length l → take m (overwrite l at s) ≡ take m l
unfolding overwrite
take-before l at s m h g =
    let t = length-take-le at l g in
    ap (take m) (append_assoc (take at l) s (drop (at + length s) l))
    ∙ take-append-le m (take at l) (s ++ drop (at + length s) l) (omega arith)
    ∙ take-take m at l h

drop-before : (l : List ℕ) (d k : ℕ) (s : List ℕ) → d + k ≤ length l → drop d (overwrite l (d + k) s) ≡ overwrite (drop d l) k s
unfolding overwrite
drop-before l d k s h =
    let t : List ℕ = take k (drop d l) in
    let e : take (d + k) l ++ s ++ drop (d + k + length s) l ≡ take d l ++ (t ++ s ++ drop (d + k + length s) l)
    = ap (λ (x : List ℕ). x ++ s ++ drop (d + k + length s) l) (take-add d k l) ∙ simp append_assoc in
    ap (drop d) e
    ∙ drop_at (take d l) (t ++ s ++ drop (d + k + length s) l) d (length-take-le d l (omega arith))
    ∙ ap (λ (x : List ℕ). t ++ s ++ x)
    (ap (λ (i : ℕ). drop i l) (let g : d + k + length s ≡ d + (k + length s) = omega arith in g) ∙ sym (drop-drop (k + length s) d l))

-- what stands there already
pub over-same : (l : List ℕ) (k : ℕ) → record_size * k + record_size ≤ length l → overwrite l (record_size * k) (slot_at l k) ≡ l
unfolding overwrite slot_at
over-same l k h =
    let n : length (take record_size (drop (record_size * k) l)) ≡ record_size = (unfold slot_at in length_slot l k h) in
    ap₂ (λ (x : List ℕ) (i : ℕ). x ++ drop (record_size * k + i) l) (sym (take-add (record_size * k) record_size l)) n
    ∙ take-append-drop (record_size * k + record_size) l

-- ---- a record of the log

slots-over : (n k : ℕ) (l s : List ℕ) → k < n → record_size * n ≤ length l → length s ≡ record_size
    → slots_in n (overwrite l (record_size * k) s) ≡ take k (slots_in n l) ++ (s ∷ drop (suc k) (slots_in n l))
unfolding slots_in
slots-over zero k l s h i e = absurd (let z : ⊥ = omega arith in z)
slots-over (suc n) zero l s h i e =
    ap₂ (λ (x y : List ℕ). x ∷ slots_in n y) (take-over l 0 s record_size (omega arith) (omega arith)) (drop-over l 0 s record_size (omega arith) (omega arith))
slots-over (suc n) (suc k) l s h i e =
    let t : take record_size (overwrite l (record_size * suc k) s) ≡ take record_size l
    = take-before l (record_size * suc k) s record_size (omega arith) (omega arith) in
    let d : drop record_size (overwrite l (record_size * suc k) s) ≡ overwrite (drop record_size l) (record_size * k) s
    = ap (λ (j : ℕ). drop record_size (overwrite l j s)) (let g : record_size * suc k ≡ record_size + record_size * k = omega arith in g)
    ∙ drop-before l record_size (record_size * k) s (omega arith) in
    ap₂ (λ (x y : List ℕ). x ∷ slots_in n y) t d
    ∙ ap (λ (x : List (List ℕ)). take record_size l ∷ x)
    (slots-over n k (drop record_size l) s (omega arith) (let m = length-drop record_size l in omega arith) e)

module _ (l : List ℕ) (k : ℕ) (s : List ℕ) (n : length s ≡ record_size) (inside : record_size * k + record_size ≤ length l) where
  abbrev after : List ℕ
  after = overwrite l (record_size * k) s

  pub length-written : length after ≡ length l
  length-written = length-overwrite l (record_size * k) s (omega arith)

  -- it stands there, and all behind it stays
  slot_written : slot_at after k ≡ s
  unfolding overwrite slot_at
  slot_written =
      let t = length-take-le (record_size * k) l (omega arith) in
      ap (λ (m : List ℕ). take record_size (drop (record_size * k) m)) (append_assoc (take (record_size * k) l) s (drop (record_size * k + length s) l))
      ∙ ap (take record_size) (drop_at (take (record_size * k) l) (s ++ drop (record_size * k + length s) l) (record_size * k) t)
      ∙ take_at s (drop (record_size * k + length s) l) record_size n

  slot_behind : (j : ℕ) → k < j → slot_at after j ≡ slot_at l j
  unfolding slot_at
  slot_behind j h = ap (take record_size) (drop-over l (record_size * k) s (record_size * j) (omega arith) (omega arith))

  -- a used record behind the last used one is the last used one
  pub extent-written : is_used s ≡ true → k ≡ extent l → extent after ≡ k + 1
  extent-written u e =
      let g = length-written in
      extent-is after (k + 1) (
        omega arith,
        (λ _. ap (λ (i : ℕ). is_used (slot_at after i)) (let z : k + 1 - 1 ≡ k = omega arith in z) ∙ ap is_used slot_written ∙ u),
        (λ j le lt v. (extent-holds l).2 j (omega arith) (omega arith) (sym (ap is_used (slot_behind j (omega arith))) ∙ v)),
      )

  -- and it is added to those that remain
  pub used-written : is_used s ≡ true → k ≡ extent l → used_ones (slots after) ≡ used_ones (slots l) ++ (s ∷ [])
  unfolding slots extent
  used-written u e =
      let m = length l / record_size in
      let ss = slots_in m l in
      ap (λ (i : ℕ). used_ones (slots_in (i / record_size) after)) length-written
      ∙ ap used_ones (slots-over m k l s (omega arith) (omega arith) n)
      ∙ used-append (take k ss) (s ∷ drop (suc k) ss)
      ∙ ap₂ ◌++◌ (ap (λ (i : ℕ). used_ones (take i ss)) e ∙ used-up_to ss)
      (used_keep s (drop (suc k) ss) u ∙ ap (λ (x : List (List ℕ)). s ∷ x) (used_beyond ss (suc k) (omega arith)))
