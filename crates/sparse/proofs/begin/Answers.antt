-- `sparse::begin` meets its contract: the register is the number of its four octets.
-- Assumes nothing.
use Rattle.sparse.proofs.Window.{begun}
use Rattle.sparse.proofs.begin.Goals as goal

pub returns : goal.returns
returns c = rw c.to_le_bytes.ensures (begun c.args.w.now c.args.reg c.requires.0 c.requires.1 (c.ranges.reg.fits))
