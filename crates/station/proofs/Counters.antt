-- Which counter is an outcome's. Assumes nothing.
use Rattle.std.proofs.Common.{◌≡◌, ℕ, ◌-◌, ◌<◌, List, length, lit<, length-set}
use Rattle.station.specs.declared.Outcome.{Outcome}
use Rattle.station.specs.declared.Outcome.TheVariants.{Cut, BadPreamble, Undersized, Oversized, WrongFcs, WrongLength, Filtered, PauseTaken, PfcTaken, ControlDropped, HandedOut}
use Rattle.station.specs.Numbers.{outcome_number}
use Rattle.station.specs.Station.{counted}

-- an outcome's number is from 1 on, and its counter is one of the eleven
pub row : (o : Outcome) → (0 < outcome_number o) × (outcome_number o - 1 < 11)
row Cut = (lit< tt, lit< tt)
row BadPreamble = (lit< tt, lit< tt)
row Undersized = (lit< tt, lit< tt)
row Oversized = (lit< tt, lit< tt)
row WrongFcs = (lit< tt, lit< tt)
row WrongLength = (lit< tt, lit< tt)
row Filtered = (lit< tt, lit< tt)
row PauseTaken = (lit< tt, lit< tt)
row PfcTaken = (lit< tt, lit< tt)
row ControlDropped = (lit< tt, lit< tt)
row HandedOut = (lit< tt, lit< tt)

-- counting keeps the number of counters
pub length-counted : (o : Outcome) (cs : List ℕ) → length (counted o cs) ≡ length cs
unfolding counted
length-counted o cs = simp length-set
