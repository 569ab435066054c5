-- `splice::put` meets its contract. A turn is `sets_more`.
-- Assumes nothing.
use native.Mathlib.Omega.{arith}
use native.Mathlib.Numerals.{add-one}
use lib.ListN.{get_or, take}
use lib.Seq.{take-suc, length-take-le}
use Rattle.splice.proofs.Laws.{sets_more}
use Rattle.splice.proofs.put.Goals as goal

pub loop-j-preserved : goal.loop-j-preserved
loop-j-preserved c =
    rw (
      c.loop-j.invariant,
      sets_more c.args.dst.now c.args.at (take c.loop-j.j c.args.src.now) c.loop-j.j (get_or c.args.src.now c.loop-j.j 0)
          (length-take-le c.loop-j.j c.args.src.now (omega arith)),
      add-one c.loop-j.j,
      take-suc c.args.src.now c.loop-j.j 0 (omega arith),
    )
