-- `table::holds` meets its contract: what was counted, and what is left of the table. Assumes nothing.
use native.Mathlib.Omega.{arith}
use Rattle.table.proofs.Entries.{held-step, held-end}
use Rattle.table.proofs.holds.Goals as goal

pub loop-k-preserved : goal.loop-k-preserved
loop-k-preserved c =
    let l = c.loop-k in
    let s = held-step _ _ l.k l.n _ _ _ (omega arith) c.holds_at.ensures c.from-n.ensures l.invariant.1 in
    (omega (arith, s.0), s.1)

pub returns : goal.returns
returns c =
    let l = c.loop-k in
    let a = c.args in
    omega (arith, l.invariant.1, held-end a.job a.t.now l.k (omega arith))
