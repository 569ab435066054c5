-- `sparse::move_down` meets its contract: i octets are moved.
-- Assumes nothing.
use mathlib.Core.Path.{◌≡◌}
use native.Mathlib.Omega.{arith}
use Rattle.sparse.proofs.Window.{move_more}
use Rattle.sparse.proofs.move_down.Goals as goal

pub loop-i-preserved : goal.loop-i-preserved
loop-i-preserved c = move_more c.args.w.now c.loop-i.w c.loop-i.i c.loop-i.auto.w (omega arith) c.loop-i.invariant

pub returns : goal.returns
returns c =
    let e : c.loop-i.i ≡ 300 = omega arith in
    rw e at c.loop-i.invariant
