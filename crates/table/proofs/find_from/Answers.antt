-- `table::find_from` meets its contract: what is left of the table decides. Assumes nothing.
use native.Mathlib.Omega.{arith}
use mathlib.Core.Path.{sym, ◌∙◌}
use Rattle.table.proofs.Entries.{never, at-is, search_here, search_next, search_end}
use Rattle.table.proofs.find_from.Goals as goal

pub returns-then-names_at : goal.returns-then-names_at
returns-then-names_at c =
    let l = c.loop-k in
    (sym (search_here _ _ l.k (omega arith) _ (sym c.names_at.ensures ∙ c.if-names_at.true)) ∙ l.invariant, λ i h. at-is l.k i 16 h (omega arith))

pub loop-k-preserved : goal.loop-k-preserved
loop-k-preserved c = search_next _ _ c.loop-k.k (omega arith) _ (sym c.names_at.ensures ∙ c.if-names_at.false) ∙ c.loop-k.invariant

pub returns : goal.returns
returns c = (sym (search_end _ _ c.loop-k.k _ (omega arith)) ∙ c.loop-k.invariant, λ i h. never i h)
