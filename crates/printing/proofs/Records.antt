-- The records of an input, one after the other. Assumes nothing.
use Prim.Native.Nat.{ℕ, suc, ◌+◌, ◌*◌, ◌%◌, ◌≤◌, ◌<◌}
use mathlib.Core.Path.{◌≡◌, refl, sym, ap, ◌∙◌}
use mathlib.Core.Bool.{Bool, true, false, ◌||◌}
use mathlib.Core.List.{List, [], ◌∷◌}
use native.Mathlib.Omega.{arith}
use native.Mathlib.Numerals.{add-one}
use lib.Dec.{eqb}
use borrow.Author.Tests.{ltb-false}
use lib.ListN.{length, get_or, drop, length-drop}
use lib.Seq.{drop-cons}
use Rattle.line.specs.Limits.{most_records}
use Rattle.printing.specs.Lines.{record_octets, record_marks, bad_input, capture_lines, printed}

module _ (l : List ℕ) (i : ℕ) where
  -- the two octets of a record
  two_more : i + 1 < length l → drop i l ≡ get_or l i 0 ∷ get_or l (i + 1) 0 ∷ drop (i + 2) l
  two_more h =
      let one : suc i ≡ i + 1 = sym (add-one i) in
      let two : suc (suc i) ≡ i + 2 = omega arith in
      drop-cons l i 0 (omega arith)
      ∙ ap (λ (r : List ℕ). get_or l i 0 ∷ r)
      (drop-cons l (suc i) 0 (omega arith) ∙ ap (λ (k : ℕ). get_or l k 0 ∷ drop (suc (suc i)) l) one ∙ ap (λ (k : ℕ). get_or l (i + 1) 0 ∷ drop k l) two)

  pub octets_more : i + 1 < length l → record_octets (drop i l) ≡ get_or l (i + 1) 0 ∷ record_octets (drop (i + 2) l)
  unfolding record_octets
  octets_more h = ap record_octets (two_more h)

  pub marks_more : i + 1 < length l → record_marks (drop i l) ≡ get_or l i 0 ∷ record_marks (drop (i + 2) l)
  unfolding record_marks
  marks_more h = ap record_marks (two_more h)

no_octets : (l : List ℕ) → length l ≤ 1 → record_octets l ≡ []
unfolding record_octets
no_octets [] h = refl
no_octets (x ∷ []) h = refl
no_octets (x ∷ y ∷ l) h = absurd (omega arith)

no_marks : (l : List ℕ) → length l ≤ 1 → record_marks l ≡ []
unfolding record_marks
no_marks [] h = refl
no_marks (x ∷ []) h = refl
no_marks (x ∷ y ∷ l) h = absurd (omega arith)

-- no whole record is left
pub octets-end : (l : List ℕ) (i : ℕ) → length l ≤ i + 1 → record_octets (drop i l) ≡ []
octets-end l i h = no_octets (drop i l) (let e = length-drop i l in omega arith)

pub marks-end : (l : List ℕ) (i : ℕ) → length l ≤ i + 1 → record_marks (drop i l) ≡ []
marks-end l i h = no_marks (drop i l) (let e = length-drop i l in omega arith)

or-false : (a : Bool) {b : Bool} → (a || b) ≡ false → b ≡ false
or-false true h = cc
or-false false h = h

-- an input that is not bad: its length, and what is printed
pub good_short : (l : List ℕ) → bad_input l ≡ false → length l ≤ 2 * most_records
unfolding bad_input
good_short l h = ltb-false (2 * most_records) (length l) (or-false (eqb (length l % 2) 1) h)

pub good_printed : (l : List ℕ) → bad_input l ≡ false → capture_lines (record_octets l) (record_marks l) ≡ printed l
unfolding printed
good_printed l h = rw h
