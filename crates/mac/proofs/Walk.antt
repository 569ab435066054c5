-- Claim 3, demand 2: a walk by next places from place 0 meets every Start symbol once and in order, each but a last open one is counted, and it
-- ends with `none` or `open`. The statements are `walk_meets`, `walk_whole` and `walk-opens`. Assumes nothing.
use Rattle.std.specs.Prelude.{None, Option, Some}
use Prim.Native.Nat.{ℕ, ◌+◌}
use native.Mathlib.Omega.{arith}
use mathlib.Core.Path.{◌≡◌, refl, sym, ap, ◌∙◌, subst}
use mathlib.Core.List.{List, [], ◌∷◌}
use lib.ListN.{length}
use Rattle.line.specs.Limits.{lead_size}
use Rattle.line.specs.Line.{Symbol, capture, run, ending, AfterStart, unended, ended, ended_by, after_start, is_start, MetStart, met_starts}
use Rattle.line.proofs.Symbols.{by_test, met_start, met-other}
use Rattle.line.proofs.Starts.{open_none}
use Rattle.station.specs.declared.Address.{Address}
use Rattle.station.specs.declared.Settings.{Settings}
use Rattle.station.specs.declared.State.{State}
use Rattle.table.specs.declared.Entry.{Entry}
use Rattle.table.specs.Entries.{mine}
use Rattle.control.specs.Control.{way_carried}
use Rattle.outcome.specs.Outcomes.{outcome, frame_of}
use Rattle.outcome.specs.Status.{status}
use Rattle.receive.specs.Reading.{read_run, read_start, handed_part}
use Rattle.receive.specs.Walk.{walk}
use Rattle.receive.proofs.Walks.{through, walk_through}
use Rattle.mac.specs.Demand2.{Readable, place_found, places_found, start_places, Whole, ends_none, ends_open, counts, is_open, ends_open_test, is_unended, last_unended}

-- ---- no Start stands after an open one

unfoldable pub OpenLast : List MetStart → Type 0
OpenLast [] = Unit {0}
OpenLast (m ∷ ms) = (m.follows ≡ unended → ms ≡ []) × OpenLast ms

not-unended : {P : Type 0} (r : List ℕ) (by : ℕ) → ended r by ≡ unended → P
not-unended r by h = let bad : ◌≡◌ {A = ℕ} 0 1 = cc in absurd (omega arith)

one_open : (at : ℕ) (xs : List Symbol) (e : Option Symbol) → ending xs ≡ e → ended_by (run xs) e ≡ unended → met_starts at xs ≡ []
unfolding ended_by
one_open at xs None h u = open_none at xs h
one_open at xs (Some y) h u = not-unended (run xs) y.octet u

pub open_last : (at : ℕ) (l : List Symbol) → OpenLast (met_starts at l)
unfolding OpenLast met_starts after_start
open_last at [] = tt
open_last at (x ∷ xs) =
    by_test (is_start x)
    (λ h. subst OpenLast (sym (met_start at x xs h)) (one_open (at + 1) xs (ending xs) refl, open_last (at + 1) xs))
    (λ h. subst OpenLast (sym (met-other at x xs h)) (open_last (at + 1) xs))

-- ---- what a walk meets, and how it ends

pub not_last : {P : Type 0} (m : MetStart) (ms : List MetStart) → m ∷ ms ≡ [] → P
not_last m ms h = let bad : ◌≡◌ {A = ℕ} 0 1 = cc in absurd (omega arith)

module _ (s : Settings) (own : List (Option Address)) (n : ℕ) where
  -- a Start in front: `f` is what follows it
  meets_one : (st : State) (i : ℕ) (f : AfterStart) (ms : List MetStart) → (f ≡ unended → ms ≡ [])
      → ((st : State) → places_found (through s own st n ms) ≡ start_places ms)
      → places_found (through s own st n (record { place = i; follows = f } ∷ ms)) ≡ i ∷ start_places ms
  unfolding through places_found place_found start_places read_start read_run
  meets_one st i unended ms l ih = ap (λ (k : List MetStart). i ∷ start_places k) (sym (l refl))
  meets_one st i (ended r by) ms l ih = ap (λ (k : List ℕ). i ∷ k) (ih (read_start s own st i (ended r by)).state)

  meets : (st : State) (ms : List MetStart) → OpenLast ms → places_found (through s own st n ms) ≡ start_places ms
  unfolding through places_found place_found start_places OpenLast
  meets st [] w = refl
  meets st (m ∷ ms) w = meets_one st m.place m.follows ms w.0 (λ st'. meets st' ms w.1)

  whole_one : (st : State) (i : ℕ) (f : AfterStart) (ms : List MetStart) → ((st : State) → Whole (through s own st n ms))
      → Whole (through s own st n (record { place = i; follows = f } ∷ ms))
  unfolding through read_start read_run
  whole_one st i unended ms ih = ends_open refl
  whole_one st i (ended r by) ms ih =
      let f : List ℕ = frame_of r in
      let o = outcome s own r by in
      counts o (status s o f) (handed_part s o (i + lead_size) f) (way_carried s own o f) refl (ih (read_start s own st i (ended r by)).state)

  whole : (st : State) (ms : List MetStart) → Whole (through s own st n ms)
  unfolding through
  whole st [] = ends_none refl
  whole st (m ∷ ms) = whole_one st m.place m.follows ms (λ st'. whole st' ms)

  opens_one : (st : State) (i : ℕ) (f : AfterStart) (ms : List MetStart) → (f ≡ unended → ms ≡ [])
      → ((st : State) → ends_open_test (through s own st n ms) ≡ last_unended ms)
      → ends_open_test (through s own st n (record { place = i; follows = f } ∷ ms)) ≡ last_unended (record { place = i; follows = f } ∷ ms)
  unfolding through ends_open_test last_unended is_open is_unended read_start read_run
  opens_one st i unended [] l ih = refl
  opens_one st i unended (m ∷ ms) l ih = not_last m ms (l refl)
  opens_one st i (ended r by) [] l ih = refl
  opens_one st i (ended r by) (m ∷ ms) l ih = ih (read_start s own st i (ended r by)).state

  opens : (st : State) (ms : List MetStart) → OpenLast ms → ends_open_test (through s own st n ms) ≡ last_unended ms
  unfolding through ends_open_test last_unended is_open OpenLast
  opens st [] w = refl
  opens st (m ∷ ms) w = opens_one st m.place m.follows ms w.0 (λ st'. opens st' ms w.1)

-- ---- the claim

module _ (s : Settings) (job : ℕ) (es : List Entry) (st : State) (os ms : List ℕ) (fine : Readable s job es os ms) where
  -- what the job has of the table
  abbrev own : List (Option Address)
  own = mine job es

  abbrev met : List MetStart
  met = met_starts 0 (capture os ms)

  -- going by next places from 0 meets every Start symbol exactly once and in order
  pub walk_meets : places_found (walk s job es st os ms) ≡ start_places met
  walk_meets = ap places_found (walk_through s job es os ms fine st) ∙ meets s own (length (capture os ms)) st met (open_last 0 (capture os ms))

  -- each but a last open one gets one outcome; the walk ends with `none` or `open`
  pub walk_whole : Whole (walk s job es st os ms)
  walk_whole = subst Whole (sym (walk_through s job es os ms fine st)) (whole s own (length (capture os ms)) st met)

  -- with `open` exactly when the last Start's run has not ended
  pub walk-opens : ends_open_test (walk s job es st os ms) ≡ last_unended met
  walk-opens = ap ends_open_test (walk_through s job es os ms fine st) ∙ opens s own (length (capture os ms)) st met (open_last 0 (capture os ms))
