-- `fcs::first_row` meets its contract: it is the definition.
-- Assumes nothing.
use Rattle.crc.specs.Words.{crc_zeros}
use Rattle.fcs.proofs.first_row.Goals as goal

pub returns : goal.returns
unfolding crc_zeros
returns c = c.bits.ensures
