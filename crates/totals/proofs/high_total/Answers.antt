-- `totals::high_total` meets its contract. The invariant: a total above 256 was met, or is among those left, exactly if there is one. Assumes nothing.
use native.Mathlib.Omega.{arith}
use mathlib.Core.Path.{sym, ◌∙◌}
use Rattle.totals.proofs.Tests.{high_turn, high_end}
use Rattle.totals.proofs.high_total.Goals as goal

pub loop-n-preserved : goal.loop-n-preserved
loop-n-preserved c = high_turn c.loop-n.high c.args.totals.now c.loop-n.n-index (omega arith) ∙ c.loop-n.invariant

pub returns : goal.returns
returns c = sym (high_end c.loop-n.high c.args.totals.now c.loop-n.n-index (omega arith)) ∙ c.loop-n.invariant
