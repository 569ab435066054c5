-- `table::has_twice` meets its contract: what is left of the table decides. Assumes nothing.
use native.Mathlib.Omega.{arith}
use mathlib.Core.Path.{sym, ◌∙◌}
use Rattle.table.proofs.Entries.{twice-here, twice-later, twice-end}
use Rattle.table.proofs.has_twice.Goals as goal

pub returns-then-again : goal.returns-then-again
returns-then-again c =
    let l = c.loop-k in
    sym (twice-here _ _ l.k (omega arith) (sym c.again.ensures ∙ c.if-again.true)) ∙ l.invariant

pub loop-k-preserved : goal.loop-k-preserved
loop-k-preserved c =
    let l = c.loop-k in
    twice-later _ _ l.k (omega arith) (sym c.again.ensures ∙ c.if-again.false) ∙ l.invariant

pub returns : goal.returns
returns c = let l = c.loop-k in sym (twice-end _ _ l.k (omega arith)) ∙ l.invariant
