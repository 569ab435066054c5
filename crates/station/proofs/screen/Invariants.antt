-- `station::screen` meets its contract: a turn is `shown-next` of Shown. Assumes nothing.
use Rattle.std.proofs.Common.{◌≡◌, length, take}
use Rattle.station.specs.Station.{screen_of}
use Rattle.station.proofs.screen.Given as goal

abbrev pub invariant-loop-k : goal.invariant-loop-k
invariant-loop-k l = (length l.counters ≡ 11) × (length l.shown ≡ 11) × (take l.k l.shown ≡ take l.k (screen_of l.counters))
