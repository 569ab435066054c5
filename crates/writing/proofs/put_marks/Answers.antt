-- `writing::put_marks` meets its contract: three writes, by `◌⨾◌`. Assumes nothing.
use native.Mathlib.Omega.{arith}
use Rattle.splice.proofs.Laws.{◌⨾◌}
use lib.ListN.{length-replicate}
use Rattle.writing.specs.Pieces.{frame_marks}
use Rattle.writing.proofs.put_marks.Goals as goal

pub fill-requires : goal.fill-requires
fill-requires c = omega (arith, simp length-replicate at c.fill-b.ensures.goes)

pub returns : goal.returns
unfolding frame_marks
returns c = search (◌⨾◌)
