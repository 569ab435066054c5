-- `sizes::put_frame` meets its contract: what the callees ensure, put together. Assumes nothing.
use Rattle.sizes.proofs.put_frame.Goals as goal

pub returns : goal.returns
returns c = record { frames_after = cc; octets_after = cc }
