-- `writing::put_number` meets its contract: the two octets are `high_first`. Assumes nothing.
use Rattle.line.specs.Octets.{high_first}
use Rattle.splice.proofs.Laws.{put_as}
use Rattle.writing.proofs.put_number.Goals as goal

pub returns : goal.returns
unfolding high_first
returns c = put_as c.to_be_bytes.ensures c.put.ensures
