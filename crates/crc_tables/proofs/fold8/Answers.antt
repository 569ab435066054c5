-- `crc_tables::fold8` meets its contract: each half of the number by its tables.
-- Assumes nothing.
use Rattle.crc.proofs.Slices.{halves}
use Rattle.crc_tables.proofs.fold8.Goals as goal

pub returns : goal.returns
returns c = cc (halves 64 32 c.args.x)
