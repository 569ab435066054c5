-- Laws of specs/Tags.antt, and of the places that tags move. Assumes nothing.
use Prim.Native.Nat.{ℕ, zero, suc, ◌+◌, ◌-◌, ◌≤◌, ◌<◌}
use native.Mathlib.Omega.{arith}
use mathlib.Core.Path.{◌≡◌, refl}
use mathlib.Core.Bool.{Bool, true, false}
use mathlib.Core.List.{List, [], ◌++◌}
use lib.ListN.{drop}
use lib.Seq.{drop-drop}
use Rattle.line.specs.Limits.{tag_size, most_tags}
use Rattle.line.specs.Octets.{high_first_at, high_first}
use Rattle.fields.specs.Tags.{is_tag_kind, tag_run, tag_count}
use Rattle.fields.specs.Fields.{field_place, data_place}
use Rattle.line.proofs.Octets.{high_first-drop, high_first-read}

-- a run, by what stands at its place
pub run_none : (f : List ℕ) (at most : ℕ) → is_tag_kind (high_first_at f at) ≡ false → tag_run most (drop at f) ≡ 0
unfolding tag_run
run_none f at zero h = refl
run_none f at (suc most) h = rw (high_first-drop f at, h, tag_run)

pub run_more : (f : List ℕ) (at most : ℕ) → 0 < most → is_tag_kind (high_first_at f at) ≡ true
    → tag_run most (drop at f) ≡ 1 + tag_run (most - 1) (drop (at + tag_size) f)
unfolding tag_run
run_more f at zero z h = omega arith
run_more f at (suc most) z h = (let e : suc most - 1 ≡ most = omega arith in rw (high_first-drop f at, h, tag_run, drop-drop tag_size at f, e))

pub run_over : (l : List ℕ) (most : ℕ) → most ≡ 0 → tag_run most l ≡ 0
unfolding tag_run
run_over l most e = rw e

-- there are few, so that no sum of the code wraps
choice_le : (b : Bool) (n m : ℕ) → n ≤ m → elim b [ true ↦ 1 + n | false ↦ 0 ] ≤ suc m
choice_le true n m h = omega arith
choice_le false n m h = omega arith

tag_run-le : (most : ℕ) (l : List ℕ) → tag_run most l ≤ most
unfolding tag_run
tag_run-le zero l = omega arith
tag_run-le (suc most) l = choice_le (is_tag_kind (high_first_at l 0)) (tag_run most (drop tag_size l)) most (tag_run-le most (drop tag_size l))

pub tag_count-small : (f : List ℕ) → tag_count f ≤ most_tags
unfolding tag_count
tag_count-small f = omega (arith, tag_run-le most_tags (drop 12 f))

pub field_place-small : (f : List ℕ) → field_place f ≤ 44
unfolding field_place
field_place-small f = omega (arith, tag_count-small f)

pub data_place-small : (f : List ℕ) → data_place f ≤ 46
unfolding data_place
data_place-small f = omega (arith, field_place-small f)

-- the tags of a frame that is put together
pub run_ends : (most n : ℕ) (r : List ℕ) → n < 65536 → is_tag_kind n ≡ false → tag_run most (high_first n ++ r) ≡ 0
unfolding tag_run
run_ends zero n r lt h = refl
run_ends (suc most) n r lt h = rw (high_first-read [] n r 0 refl lt, h, tag_run)

pub run-goes_on : (most kind control : ℕ) (r : List ℕ) → kind < 65536 → is_tag_kind kind ≡ true
    → tag_run (suc most) (high_first kind ++ (high_first control ++ r)) ≡ 1 + tag_run most r
unfolding tag_run
run-goes_on most kind control r lt h = rw (high_first-read [] kind (high_first control ++ r) 0 refl lt, h, tag_run) (unfold high_first in refl)
