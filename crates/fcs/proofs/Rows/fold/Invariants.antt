-- `fcs::Rows::fold` meets its contract: the register `r` is that of the octets from the one at `k` on.
-- Assumes nothing.
use mathlib.Core.Path.{◌≡◌}
use Prim.Native.Nat.{◌+◌, ◌-◌, ◌*◌, ◌/◌, ◌^◌}
use Rattle.crc.specs.Words.{crc_zeros}
use Rattle.fcs.proofs.Rows.fold.Given as goal

abbrev pub invariant-loop-k : goal.invariant-loop-k
invariant-loop-k g l = l.r ≡ crc_zeros (l.m + g.row.N - l.k) (l.x / 2 ^ (8 * l.k))
