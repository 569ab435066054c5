-- `crc::bits` meets its contract: one bit more leaves r.
-- Assumes nothing.
use Rattle.crc.proofs.Linear.{bits-add}
use Rattle.crc.proofs.bits.Goals as goal

pub loop-preserved : goal.loop-preserved
loop-preserved c = cc (bits-add c.loop.counter 1 c.args.x)
