-- `crc_tables::after8` meets its contract: the lower of the two registers.
-- Assumes nothing.
use native.Mathlib.Omega.{arith}
use Rattle.crc.proofs.Slices.{zeros_low}
use Rattle.crc_tables.proofs.after8.Goals as goal

pub returns : goal.returns
returns c = rw c.fold8.ensures (zeros_low 8 8 c.args.x (omega arith))
