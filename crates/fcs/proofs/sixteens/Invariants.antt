-- `fcs::sixteens` meets its contract: what is left of the octets takes the register `r` to where the whole takes `reg`.
-- Assumes nothing.
use mathlib.Core.Path.{◌≡◌}
use Prim.Native.Nat.{◌-◌, ◌%◌, ◌≤◌}
use lib.ListN.{length, drop}
use Rattle.crc.specs.Crc.{crc_over}
use Rattle.fcs.proofs.sixteens.Given as goal

abbrev pub invariant-loop-i : goal.invariant-loop-i
invariant-loop-i g l = (l.i ≤ length l.s) × (l.i % 16 ≡ 0) × (crc_over l.r (drop l.i l.s) ≡ crc_over l.reg l.s)

abbrev pub decreases-loop-i : goal.decreases-loop-i
decreases-loop-i g l = length l.s - l.i
