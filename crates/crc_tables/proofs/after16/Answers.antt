-- `crc_tables::after16` meets its contract: the higher of the two registers.
-- Assumes nothing.
use native.Mathlib.Omega.{arith}
use Rattle.crc.proofs.Slices.{zeros_high}
use Rattle.crc_tables.proofs.after16.Goals as goal

pub returns : goal.returns
returns c = rw c.fold8.ensures (zeros_high 8 8 c.args.x (omega arith))
