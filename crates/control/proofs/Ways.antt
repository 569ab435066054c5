-- Document 02, items 7 and 10: of valid settings, the number of a frame is above 0 exactly where rule 7 lets it through; so outcomes 8 to 11 carry a
-- number above 0, and a filtered frame has none to carry. Assumes nothing.
use Rattle.std.specs.Prelude.{Option}
use Prim.Native.Nat.{ℕ, ◌≤◌}
use native.Mathlib.Omega.{arith}
use mathlib.Core.Path.{◌≡◌, refl, sym, ap, ◌∙◌}
use mathlib.Core.Bool.{Bool, true, false, not, ◌&&◌, ◌||◌, cond, false≢true}
use mathlib.Core.List.{List}
use lib.ListN.{length}
use denote.Enum.Declared.{tag_of}
use types.Run.{OneOf}
use lib.Dec.{ltb}
use Rattle.line.specs.Limits.{table_entries}
use Rattle.line.specs.Octets.{same_octets}
use Rattle.line.proofs.Octets.{same_octets-eq, false_unless}
use Rattle.station.specs.declared.Address.{Address}
use Rattle.station.specs.declared.Settings.{Settings}
use Rattle.station.specs.declared.Outcome.{Outcome}
use Rattle.station.specs.declared.Outcome.TheVariants.{Cut, BadPreamble, Undersized, Oversized, WrongFcs, WrongLength, Filtered}
use Rattle.station.specs.declared.Outcome.TheVariants.{PauseTaken, PfcTaken, ControlDropped, HandedOut}
use Rattle.station.specs.contracts.Outcome.{the_type}
use Rattle.station.proofs.Arms.{one_to_seven, eight_to_eleven, early, late}
use Rattle.station.specs.Station.{is_group}
use Rattle.fields.specs.Fields.{destination}
use Rattle.address.specs.Address.{broadcast_address}
use Rattle.table.specs.Way.{accepts, way}
use Rattle.table.proofs.Ways.{way-accepts, way-own, way-le}
use Rattle.control.specs.Control.{is_control_frame, to_reserved_group, to_own, filtered, frame_way, way_carried}

-- ---- the two arms of `way_carried`

module _ (s : Settings) (own : List (Option Address)) (f : List ℕ) where
  pub no_way : (o : Outcome) → OneOf one_to_seven (tag_of the_type o) → 0 ≡ way_carried s own o f
  unfolding way_carried
  no_way o h = early o 0 _ _ _ _ h

  pub some-way : (o : Outcome) → OneOf eight_to_eleven (tag_of the_type o) → frame_way s own f ≡ way_carried s own o f
  unfolding way_carried
  some-way o h = late o 0 (frame_way s own f) h

-- ---- "Accepted and refused stay as they are": rule 7

broadcast_group : is_group broadcast_address ≡ true
unfolding is_group broadcast_address
broadcast_group = refl

cond_above : (b : Bool) (w : ℕ) → ltb 0 (cond b 8 w) ≡ cond b true (ltb 0 w)
cond_above true w = refl
cond_above false w = refl

passed : (c g o a : Bool) → (o ≡ true → a ≡ true) → cond (c && g) true a ≡ not (not (c && (g || o)) && not a)
passed true true o a h = refl
passed true false true a h = h refl
passed true false false true h = refl
passed true false false false h = refl
passed false g o true h = refl
passed false g o false h = refl

-- settings that refusal 1 lets through: the own address is no group address
module _ (s : Settings) (own : List (Option Address)) (f : List ℕ) (valid : is_group s.own.0 ≡ false) where
  own_unbroadcast : to_own s f ≡ true → same_octets (destination f) broadcast_address ≡ false
  unfolding to_own
  own_unbroadcast o =
      false_unless (same_octets (destination f) broadcast_address)
      (λ b. let e : s.own.0 ≡ broadcast_address = sym (same_octets-eq (destination f) s.own.0 o) ∙ same_octets-eq (destination f) broadcast_address b in
      let g : true ≡ false = sym broadcast_group ∙ sym (ap is_group e) ∙ valid in
      false≢true (sym g))

  pub own_accepted : to_own s f ≡ true → accepts s own (destination f) ≡ true
  unfolding to_own
  own_accepted o = sym (way-accepts s own (destination f)) ∙ ap (ltb 0) (way-own s own (destination f) (own_unbroadcast o) o)

  pub let_in : ltb 0 (frame_way s own f) ≡ not (filtered s own f)
  unfolding filtered frame_way
  let_in =
      let b = is_control_frame f && to_reserved_group f in
      cond_above b (way s own (destination f))
      ∙ ap (cond b true) (way-accepts s own (destination f))
      ∙ passed (is_control_frame f) (to_reserved_group f) (to_own s f) (accepts s own (destination f)) own_accepted

-- ---- of the entries, rule 7 asks only what the address rule accepts

pub filtered_alike : (s : Settings) (own own' : List (Option Address)) → ((d : List ℕ) → accepts s own d ≡ accepts s own' d) → (f : List ℕ)
    → filtered s own f ≡ filtered s own' f
unfolding filtered
filtered_alike s own own' same f = ap (λ (b : Bool). not (is_control_frame f && (to_reserved_group f || to_own s f)) && not b) (same (destination f))

-- ---- it is at most 31, since the table has 16 entries

cond-le : (b : Bool) (w : ℕ) → w ≤ 31 → cond b 8 w ≤ 31
cond-le true w h = omega arith
cond-le false w h = omega arith

module _ (s : Settings) (own : List (Option Address)) (f : List ℕ) (few : length own ≤ table_entries) where
  frame-way-le : frame_way s own f ≤ 31
  unfolding frame_way
  frame-way-le = cond-le (is_control_frame f && to_reserved_group f) (way s own (destination f)) (way-le s own (destination f) few)

  pub way_carried_le : (o : Outcome) → way_carried s own o f ≤ 31
  unfolding way_carried
  way_carried_le Cut = omega arith
  way_carried_le BadPreamble = omega arith
  way_carried_le Undersized = omega arith
  way_carried_le Oversized = omega arith
  way_carried_le WrongFcs = omega arith
  way_carried_le WrongLength = omega arith
  way_carried_le Filtered = omega arith
  way_carried_le PauseTaken = frame-way-le
  way_carried_le PfcTaken = frame-way-le
  way_carried_le ControlDropped = frame-way-le
  way_carried_le HandedOut = frame-way-le
