-- Laws of specs/Length.antt: how much data there is, the length rule by the tests that lead to a row, and how much is handed out. Assumes nothing.
use Prim.Native.Nat.{ℕ, ◌-◌, ◌≤◌, ◌<◌, min}
use native.Mathlib.Omega.{arith}
use mathlib.Core.Path.{◌≡◌, refl, sym, ap, ◌∙◌}
use mathlib.Core.Bool.{Bool, true, false, not, ◌&&◌, ◌||◌, cond}
use mathlib.Core.List.{List}
use lib.ListN.{length, take, length-take, length-drop}
use lib.Dec.{eqb, ltb}
use borrow.Author.Tests.{le-leb, lt-leb}
use Rattle.line.specs.Limits.{fcs_size, least_type, most_length, least_data}
use Rattle.line.specs.Octets.{between}
use Rattle.line.proofs.Tables.{first-here, first_next, first-other}
use Rattle.fields.specs.declared.Layout.{Layout}
use Rattle.fields.specs.Tags.{tag_count}
use Rattle.fields.specs.Fields.{field}
use Rattle.fields.specs.Places.{layout_of}
use Rattle.frame.specs.Frame.{data_from, frame_data}
use Rattle.frame.specs.Length.{shortest, kept, breaks_length, wrong_length, handed_count, handed_of}

-- ---- how much data there is

pub data_length : (place : ℕ) (f : List ℕ) → length (data_from place f) ≡ length f - fcs_size - place
unfolding data_from between
data_length place f = simp (length-take, length-drop) (omega arith)

-- ---- the rule, row by row; its first row is `kept-type` of FrameLaws
module _ (tags field octets : ℕ) where
  pub kept-gap : field < least_type → most_length < field → kept tags field octets ≡ false
  unfolding kept
  kept-gap h g = first_next true _ (lt-leb _ field (omega arith)) ∙ first-here false _ (le-leb _ field (omega arith))

  pub kept_exact : field ≤ most_length → least_data ≤ field → kept tags field octets ≡ eqb octets field
  unfolding kept
  kept_exact h g =
      first_next true _ (lt-leb _ field (omega arith)) ∙ first_next false _ (lt-leb _ field (omega arith))
      ∙ first-here (eqb octets field) _ (le-leb _ field (omega arith))

  pub kept-padded : field < least_data → kept tags field octets ≡ (eqb octets least_data || eqb octets (shortest tags field))
  unfolding kept
  kept-padded h =
      first_next true _ (lt-leb _ field (omega arith)) ∙ first_next false _ (lt-leb _ field (omega arith))
      ∙ first_next (eqb octets field) _ (lt-leb _ field (omega arith)) ∙ first-other (eqb octets least_data || eqb octets (shortest tags field))

front-count : (b : Bool) (n : ℕ) (l : List ℕ) → cond b (min n (length l)) (length l) ≡ length (cond b (take n l) l)
front-count true n l = sym (length-take n l)
front-count false n l = refl

front-le : (b : Bool) (n : ℕ) (l : List ℕ) → length (cond b (take n l) l) ≤ length l
front-le true n l = omega (arith, length-take n l)
front-le false n l = omega arith

-- ---- rule 6
pub length-unchecked : (l : Layout) (f : List ℕ) → breaks_length false l f ≡ false
unfolding breaks_length
length-unchecked l f = refl

pub length_right : (checking : Bool) (f : List ℕ) → kept (tag_count f) (field f) (length (frame_data f)) ≡ true → wrong_length checking f ≡ false
unfolding wrong_length breaks_length layout_of frame_data
length_right true f h = ap not h
length_right false f h = refl

-- ---- what is handed out, of a field and the data behind it

-- how many octets
pub handed-count : (checking : Bool) (n : ℕ) (d : List ℕ) → handed_count checking n (length d) ≡ length (handed_of checking n d)
unfolding handed_count handed_of
handed-count checking n d = front-count (checking && ltb n least_data) n d

-- never more than the data
pub handed-le : (n : ℕ) (d : List ℕ) (checking : Bool) → length (handed_of checking n d) ≤ length d
unfolding handed_of
handed-le n d checking = front-le (checking && ltb n least_data) n d
