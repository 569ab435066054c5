-- Laws of `Shown`, for a writer that writes one piece of a text after the other, of which only a part is kept. Assumes nothing.
use Prim.Native.Nat.{ℕ, zero, suc, ◌+◌, ◌-◌, ◌≤◌, ◌<◌, min}
use mathlib.Core.Path.{◌≡◌, refl, sym, ap, ◌∙◌}
use mathlib.Core.List.{List, [], ◌∷◌, ◌++◌}
use native.Mathlib.Omega.{arith}
use lib.ListN.{length, take, drop, set, length-append, length-take, length-drop, length-set, drop_of_length-le}
use lib.Seq.{sets, set_out, sets-eq, drop-nil}
use Rattle.line.specs.Line.{overwrite}
use Rattle.splice.proofs.Laws.{sets_sets}
use Rattle.printing.specs.Parts.{part}
use Rattle.printing.specs.Shown.{Shown}

-- ---- one octet, before the part, behind it and in it

module _ {from at v : ℕ} {l : List ℕ} where
  pub shown-before : at < from → Shown from l at (v ∷ []) (at + 1) l
  shown-before h =
      record { goes = refl; holds = ap (sets l (at - from)) (sym (drop_of_length-le (v ∷ []) {i = from - at} (omega arith))) }

  pub shown-behind : from ≤ at → length l ≤ at - from → Shown from l at (v ∷ []) (at + 1) l
  shown-behind h far =
      let e : from - at ≡ 0 = omega arith in
      record { goes = refl; holds = rw (e, set_out l (at - from) v far) }

  pub shown-inside : from ≤ at → Shown from l at (v ∷ []) (at + 1) (set l (at - from) v)
  shown-inside h =
      let e : from - at ≡ 0 = omega arith in
      record { goes = refl; holds = rw e }

-- nothing
pub shown-none : (from at : ℕ) (l : List ℕ) → Shown from l at [] at l
shown-none from at l = record { goes = omega arith; holds = ap (sets l (at - from)) (sym (drop-nil (from - at))) }

-- ---- two pieces, the second where the first ended, are one

drop-both : (n : ℕ) (a b : List ℕ) → drop n (a ++ b) ≡ drop n a ++ drop (n - length a) b
drop-both zero a b = let e : 0 - length a ≡ 0 = omega arith in rw e
drop-both (suc n) [] b = let e : suc n - 0 ≡ suc n = omega arith in rw e
drop-both (suc n) (x ∷ a) b = let e : suc n - suc (length a) ≡ n - length a = omega arith in rw e (drop-both n a b)

pieces : (from at : ℕ) (l a b : List ℕ)
    → sets (sets l (at - from) (drop (from - at) a)) ((at + length a) - from) (drop (from - (at + length a)) b) ≡ sets l (at - from) (drop (from - at) (a ++ b))
pieces from at l a b =
    let n = length-drop (from - at) a in
    let e : (at + length a) - from ≡ (at - from) + length (drop (from - at) a) = omega arith in
    let f : from - (at + length a) ≡ (from - at) - length a = omega arith in
    rw (drop-both (from - at) a b, e, f) (sets_sets l (at - from) (drop (from - at) a) (drop (from - at - length a) b))

pub shown-then : {from i j k : ℕ} {l m n a b : List ℕ} → Shown from l i a j m → Shown from m j b k n → Shown from l i (a ++ b) k n
shown-then {from} {i} {j} {k} {l} {m} {n} {a} {b} p q =
    record {
      goes = rw length-append (omega arith);
      holds = q.holds ∙ rw (p.holds, p.goes) (pieces from i l a b);
    }

-- a piece, said by an equal list
pub shown_as : {from i j : ℕ} {l m a b : List ℕ} → a ≡ b → Shown from l i a j m → Shown from l i b j m
shown_as e p = rw (← e) p

-- ---- a writer that has `rest` still to write, from `at` on, so that `whole` is written over `old` from its start on

pub record Left (from : ℕ) (old whole : List ℕ) (held : List ℕ) (at : ℕ) (rest : List ℕ) : Type 0 where
  pub goes : at + length rest ≡ length whole
  pub holds : sets held (at - from) (drop (from - at) rest) ≡ sets old (0 - from) (drop (from - 0) whole)

-- nothing is written yet
pub left-start : {from : ℕ} {old whole rest : List ℕ} → rest ≡ whole → Left from old whole old 0 rest
left-start {from} {old} {whole} {rest} e =
    let n = ap length e in
    record { goes = omega arith; holds = ap (λ (l : List ℕ). sets old (0 - from) (drop (from - 0) l)) e }

-- a piece more
pub left_more : {from at at' : ℕ} {old whole held held' rest rest' a : List ℕ} → Left from old whole held at rest → Shown from held at a at' held' → rest ≡ a ++ rest'
    → Left from old whole held' at' rest'
left_more {from} {at} {at'} {old} {whole} {held} {held'} {rest} {rest'} {a} p q e =
    let n = ap length e ∙ length-append a rest' in
    record {
      goes = omega (arith, p.goes, q.goes);
      holds = rw (q.holds, q.goes) (pieces from at held a rest') ∙ ap (λ (l : List ℕ). sets held (at - from) (drop (from - at) l)) (sym e) ∙ p.holds;
    }

-- the last piece
pub left-last : {from at at' : ℕ} {old whole held held' rest a : List ℕ} → Left from old whole held at rest → Shown from held at a at' held' → rest ≡ a
    → Shown from old 0 whole at' held'
left-last {from} {at} {at'} {old} {whole} {held} {held'} {rest} {a} p q e =
    let n = ap length e in
    record {
      goes = omega (arith, p.goes, q.goes);
      holds = q.holds ∙ ap (λ (l : List ℕ). sets held (at - from) (drop (from - at) l)) (sym e) ∙ p.holds;
    }

-- ---- the reader's form

-- stores behind the end of a list change nothing
sets_out : (l : List ℕ) (i : ℕ) (a : List ℕ) → length l ≤ i → sets l i a ≡ l
sets_out l i [] h = refl
sets_out l i (x ∷ a) h = ap (λ (r : List ℕ). sets r (suc i) a) (set_out l i x h) ∙ sets_out l (suc i) a (omega arith)

sets_most : (m : ℕ) (l : List ℕ) (i : ℕ) (a : List ℕ) → length l ≤ i + m → sets l i a ≡ sets l i (take m a)
sets_most zero l i a h = sets_out l i a (omega arith)
sets_most (suc m) l i [] h = refl
sets_most (suc m) l i (x ∷ a) h = sets_most m (set l i x) (suc i) a (let e = length-set l i x in omega arith)

-- what was written over `old` from a text's start on is the text's part
pub shown-part : {from next room : ℕ} {old text held : List ℕ} → Shown from old 0 text next held → length old ≡ room → held ≡ overwrite old 0 (part room from text)
unfolding overwrite
shown-part {from} {next} {room} {old} {text} {held} p h =
    let e : 0 - from ≡ 0 = omega arith in
    let f : from - 0 ≡ from = omega arith in
    let n = length-take room (drop from text) in
    p.holds
    ∙ rw (e, f) (sets_most room old 0 (drop from text) (omega arith))
    ∙ sets-eq (part room from text) old 0 (omega arith)

-- and so long is the part
pub part-long : (room from : ℕ) (text : List ℕ) → length (part room from text) ≡ min room (length text - from)
part-long room from text = length-take room (drop from text) ∙ ap (min room) (length-drop from text)

-- the promise of a program: how long the part is, what holds it, and that the whole is no longer than `most`
pub shown_whole : {from next room most k : ℕ} {old text held : List ℕ} → Shown from old 0 text next held → length old ≡ room → next ≤ most → k ≡ min room (next - from)
    → (k ≡ length (part room from text)) × ((held ≡ overwrite old 0 (part room from text)) × (length text ≤ most))
shown_whole {from} {next} {room} {most} {k} {old} {text} {held} p h few is =
    let e : next ≡ length text = omega (arith, p.goes) in
    (is ∙ ap (λ (n : ℕ). min room (n - from)) e ∙ sym (part-long room from text), (shown-part p h, omega arith))

-- a part ends inside the whole
pub part-inside : (room from most k : ℕ) (text : List ℕ) → k ≡ length (part room from text) → length text ≤ most → from ≤ most → from + k ≤ most
part-inside room from most k text e few h = let n = part-long room from text in omega arith
