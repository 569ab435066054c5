-- `fcs::fill_row` meets its contract: the first entry, and then a power of two of them each time.
-- Assumes nothing.
use mathlib.Core.Path.{◌≡◌}
use Prim.Native.Nat.{ℕ, ◌+◌, ◌-◌, ◌%◌, ◌^◌, ◌≤◌}
use lib.ListN.{length}
use Rattle.fcs.specs.Lent.{Filled}
use Rattle.fcs.proofs.fill_row.Given as goal

abbrev pub invariant-loop-n : goal.invariant-loop-n
invariant-loop-n l = (j : ℕ) × (l.n ≡ 2 ^ j) × (l.n ≤ 256) × (length l.t ≡ 4096) × (l.i % 256 ≡ 0) × (l.i + 256 ≤ 4096) × Filled (l.i + l.n) l.t

abbrev pub decreases-loop-n : goal.decreases-loop-n
decreases-loop-n l = 256 - l.n
