-- `crc::bits` meets its contract. The loop's invariant: the bits so far have left r.
-- Assumes nothing.
use mathlib.Core.Path.{◌≡◌}
use Rattle.crc.specs.Crc.{crc_bits}
use Rattle.crc.proofs.bits.Given as goal

abbrev pub invariant-loop : goal.invariant-loop
invariant-loop l = l.r ≡ crc_bits l.counter l.x
