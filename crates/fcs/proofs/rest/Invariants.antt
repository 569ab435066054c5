-- `fcs::rest` meets its contract: what is left of the octets takes the register `r` to where the whole takes `reg`.
-- Assumes nothing.
use mathlib.Core.Path.{◌≡◌}
use Prim.Native.Nat.{◌-◌, ◌≤◌}
use lib.ListN.{length, drop}
use Rattle.crc.specs.Crc.{crc_over}
use Rattle.fcs.proofs.rest.Given as goal

abbrev pub invariant-loop-i : goal.invariant-loop-i
invariant-loop-i l = (l.i ≤ length l.s) × (crc_over l.r (drop l.i l.s) ≡ crc_over l.reg l.s)

abbrev pub decreases-loop-i : goal.decreases-loop-i
decreases-loop-i l = length l.s - l.i
