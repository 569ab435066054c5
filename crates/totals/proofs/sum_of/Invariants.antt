-- `totals::sum_of` meets its contract. The invariant: the sum is that of the totals passed, 256 for each at most. Assumes nothing.
use Prim.Native.Nat.{◌*◌, ◌≤◌}
use mathlib.Core.Path.{◌≡◌}
use lib.ListN.{take}
use Rattle.line.specs.Limits.{block_size}
use Rattle.station.specs.Station.{total}
use Rattle.totals.proofs.sum_of.Given as goal

abbrev pub invariant-loop-i : goal.invariant-loop-i
invariant-loop-i l = (l.sum ≤ block_size * l.i) × (l.sum ≡ total (take l.i l.totals))
