-- `line::pass_data` meets its contract: one block more is passed. Assumes nothing.
use native.Mathlib.Omega.{arith}
use Rattle.line.proofs.Passing.{passed_more}
use Rattle.line.proofs.pass_data.Goals as goal

pub loop-i-preserved : goal.loop-i-preserved
loop-i-preserved c = passed_more _ _ _ _ _ c.loop-i.invariant (omega arith) (c.any_mark.ensures c.if-not-any_mark.true)
