-- `log::put_low` meets its contract. What is left to write is kept equal to the whole: a turn is `low_turn`.
-- Assumes nothing.
use Prim.Native.Nat.{◌+◌, ◌-◌}
use mathlib.Core.Path.{◌≡◌}
use lib.Seq.{sets}
use Rattle.reading_log.specs.Log.{low_octets}
use Rattle.reading_log.proofs.put_low.Given as goal

abbrev pub invariant-loop-j : goal.invariant-loop-j
invariant-loop-j l =
    sets l.dst (l.at + l.j) (low_octets (l.n - l.j) l.y) ≡ sets l.initial.dst l.at (low_octets l.n l.x)
