-- `splice::fill` meets its contract. As put.
-- Assumes nothing.
use lib.ListN.{replicate, length-replicate, replicate-append-replicate}
use Rattle.splice.proofs.Laws.{sets_more}
use Rattle.splice.proofs.fill.Goals as goal

pub loop-j-preserved : goal.loop-j-preserved
loop-j-preserved c =
    rw (
      c.loop-j.invariant,
      sets_more c.args.dst.now c.args.at (replicate c.loop-j.j c.args.v) c.loop-j.j c.args.v (length-replicate c.loop-j.j c.args.v),
      replicate-append-replicate c.loop-j.j 1 c.args.v,
    )
