-- `crc::far` meets its contract: what the calls ensure, joined by `cc`.
-- Assumes nothing.
use Rattle.crc.proofs.Slices.{both_is}
use Rattle.crc.proofs.far.Goals as goal

pub returns : goal.returns
returns c = cc (both_is 64 c.args.n c.args.v)
