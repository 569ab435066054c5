-- `station::bad_start` meets its contract: each way out rewrites with the port and with what `bad_place` found. Assumes nothing.
use Rattle.std.proofs.Common.{◌≡◌, ℕ, ◌%◌, Bool, true, false, not, ◌||◌, eqb, List, sym, ap, ◌∙◌}
use Rattle.station.specs.declared.Port.{Port}
use Rattle.station.specs.declared.Port.TheVariants.{Plain, FourLane}
use Rattle.station.specs.Station.{bad_place, bad_start}
use Rattle.station.proofs.bad_start.Goals as goal

beyond : (port : Port) (os : List ℕ) (place : ℕ) → bad_place os place ≡ true → bad_start port os place ≡ true
unfolding bad_start
beyond Plain os place h = h
beyond FourLane os place h = ap (λ (b : Bool). b || not (eqb (place % 4) 0)) h

plain : (port : Port) (os : List ℕ) (place : ℕ) → port ≡ Plain → bad_place os place ≡ false → bad_start port os place ≡ false
unfolding bad_start
plain port os place e h = rw e h

four : (port : Port) (os : List ℕ) (place : ℕ) → port ≡ FourLane → bad_place os place ≡ false → bad_start port os place ≡ not (eqb (place % 4) 0)
unfolding bad_start
four port os place e h = rw (e, h)

pub returns-then-bad_place : goal.returns-then-bad_place
returns-then-bad_place c = sym (beyond _ _ _ (sym c.bad_place.ensures ∙ c.if-bad_place.true))

pub returns-in_default : goal.returns-in_default
returns-in_default c = sym (plain _ _ _ c.in_default.is (sym c.bad_place.ensures ∙ c.if-bad_place.false))

pub returns : goal.returns
returns c = sym (four _ _ _ c.in-FourLane.is (sym c.bad_place.ensures ∙ c.if-bad_place.false))
