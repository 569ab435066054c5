-- `fcs::words` meets its contract: from what is carried on, what is left of the octets has the register at the end that the whole has from `reg`.
-- Assumes nothing.
use mathlib.Core.Path.{◌≡◌}
use Prim.Native.Nat.{◌+◌, ◌-◌, ◌≤◌}
use lib.ListN.{length, drop}
use Rattle.crc.specs.Crc.{crc_over}
use Rattle.sparse.specs.Words.{number}
use Rattle.fcs.proofs.words.Given as goal

abbrev pub invariant-loop-i : goal.invariant-loop-i
invariant-loop-i l = (l.i + 40 ≤ length l.s) × (crc_over (number l.w) (drop l.i l.s) ≡ crc_over l.reg l.s)

abbrev pub decreases-loop-i : goal.decreases-loop-i
decreases-loop-i l = length l.s - l.i
