-- `sparse::shorten` meets its contract: from what is carried on, what is left of the octets has the register at the end that the whole has from `reg`.
-- Assumes nothing.
use mathlib.Core.Path.{◌≡◌}
use Prim.Native.Nat.{◌+◌, ◌-◌, ◌≤◌}
use lib.ListN.{length, take, drop}
use Rattle.crc.specs.Crc.{crc_over}
use Rattle.sparse.specs.Octets.{carried_on}
use Rattle.sparse.proofs.shorten.Given as goal

abbrev pub invariant-loop-at : goal.invariant-loop-at
invariant-loop-at l =
    (length l.w ≡ 1560) × (l.at + 300 ≤ length l.s) × (crc_over (carried_on (take 300 l.w)) (drop l.at l.s) ≡ crc_over l.reg l.s)

abbrev pub decreases-loop-at : goal.decreases-loop-at
decreases-loop-at l = length l.s - l.at
