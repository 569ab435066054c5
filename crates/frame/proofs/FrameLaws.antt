-- Laws of a frame that is put together from its parts: what the reader's definitions find in it. Assumes nothing.
use Prim.Native.Nat.{ℕ, ◌+◌, ◌-◌, ◌*◌, ◌≤◌, ◌<◌}
use native.Mathlib.Omega.{arith}
use mathlib.Core.Path.{◌≡◌, refl, sym, ap, ap₂, ◌∙◌}
use mathlib.Core.Bool.{Bool, true, false, not, ◌||◌}
use mathlib.Core.List.{List, ◌++◌, append_assoc}
use lib.ListN.{length, length-append}
use lib.Seq.{drop_at, take_at}
use lib.Dec.{eqb}
use borrow.Author.Tests.{eq-eqb, le-leb, lt-leb}
use Rattle.line.specs.Limits.{tag_size, fcs_size, least_type, most_length, least_data, around_data}
use Rattle.line.specs.Octets.{same_octets, high_first, between}
use Rattle.line.proofs.Octets.{same_octets-refl, high_first-read, between_middle}
use Rattle.line.proofs.Tables.{first-here, first_next, first-other}
use Rattle.fcs.specs.Fcs.{fcs}
use Rattle.fcs.proofs.Laws.{fcs-four}
use Rattle.fields.specs.Tags.{tag_count}
use Rattle.fields.specs.Fields.{field_place, field, data_place}
use Rattle.frame.specs.Frame.{data_from, frame_data, covered, last_four, wrong_fcs}
use Rattle.frame.specs.Length.{shortest, kept}

-- ---- the FCS

-- a frame that ends in the check of what stands before it is not wrong: no property of the division is used
pub fcs_right : (b : List ℕ) → wrong_fcs (b ++ fcs b) ≡ false
unfolding wrong_fcs covered last_four
fcs_right b =
    let n : length b ≡ length (b ++ fcs b) - fcs_size = omega (arith, length-append b (fcs b), fcs-four b) in
    ap₂ (λ (x y : List ℕ). not (same_octets x (fcs y))) (drop_at b (fcs b) (length (b ++ fcs b) - fcs_size) n)
    (take_at b (fcs b) (length (b ++ fcs b) - fcs_size) n)
    ∙ ap not (same_octets-refl (fcs b))

-- ---- field, data, length: `h` is what stands before the field
module _ (h : List ℕ) (n : ℕ) (p q : List ℕ) (t : ℕ) (ht : tag_count (h ++ (high_first n ++ (p ++ q))) ≡ t) (hl : length h ≡ 12 + tag_size * t)
    (lt : n < 65536) (ql : length q ≡ fcs_size) where
  pub frame-length : length (h ++ (high_first n ++ (p ++ q))) ≡ around_data + tag_size * t + length p
  unfolding high_first
  frame-length = simp length-append (omega arith)

  pub frame-field : field (h ++ (high_first n ++ (p ++ q))) ≡ n
  unfolding field field_place
  frame-field = high_first-read h n (p ++ q) (12 + tag_size * tag_count (h ++ (high_first n ++ (p ++ q)))) (hl ∙ ap (λ (k : ℕ). 12 + tag_size * k) (sym ht)) lt

  pub frame_payload : frame_data (h ++ (high_first n ++ (p ++ q))) ≡ p
  unfolding frame_data data_from data_place field_place
  frame_payload =
      let two : length (h ++ high_first n) ≡ 14 + tag_size * t = (unfold high_first in simp length-append (omega arith)) in
      let k = frame-length in
      ap (λ (l : List ℕ). between l (12 + tag_size * tag_count (h ++ (high_first n ++ (p ++ q))) + 2) (length (h ++ (high_first n ++ (p ++ q))) - fcs_size))
      (sym (append_assoc h (high_first n) (p ++ q)))
      ∙ between_middle (h ++ high_first n) p q (12 + tag_size * tag_count (h ++ (high_first n ++ (p ++ q))) + 2)
      (length (h ++ (high_first n ++ (p ++ q))) - fcs_size) (omega arith) (omega arith)

-- ---- the length rule

pub kept-type : (t n k : ℕ) → least_type ≤ n → kept t n k ≡ true
unfolding kept
kept-type t n k h = first-here true _ (le-leb _ n (omega arith))

pub kept-long : (t n : ℕ) → least_data ≤ n → n ≤ most_length → kept t n n ≡ true
unfolding kept
kept-long t n h g =
    first_next true _ (lt-leb _ n (omega arith)) ∙ first_next false _ (lt-leb _ n (omega arith)) ∙ first-here (eqb n n) _ (le-leb _ n (omega arith))
    ∙ eq-eqb n n refl

pub kept-short : (t n k : ℕ) → n < least_data → k ≡ least_data → kept t n k ≡ true
unfolding kept
kept-short t n k h e =
    first_next true _ (lt-leb _ n (omega arith)) ∙ first_next false _ (lt-leb _ n (omega arith)) ∙ first_next (eqb k n) _ (lt-leb _ n (omega arith))
    ∙ first-other (eqb k least_data || eqb k (shortest t n)) ∙ ap (λ (b : Bool). b || eqb k (shortest t n)) (eq-eqb k least_data e)
