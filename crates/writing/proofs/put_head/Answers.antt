-- `writing::put_head` meets its contract: three writes, by `◌⨾◌`. Assumes nothing.
use Rattle.splice.proofs.Laws.{◌⨾◌}
use Rattle.line.specs.Line.{preamble}
use Rattle.writing.specs.Pieces.{lead, head_of}
use Rattle.writing.proofs.put_head.Goals as goal

pub returns : goal.returns
unfolding head_of lead preamble
returns c = search (◌⨾◌)
