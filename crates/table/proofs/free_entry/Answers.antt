-- `table::free_entry` meets its contract: what is left of the table decides. Assumes nothing.
use native.Mathlib.Omega.{arith}
use mathlib.Core.Path.{◌≡◌, refl, sym, ap, ◌∙◌}
use denote.Enum.Bare.{sameb}
use Rattle.table.specs.contracts.Holder.{the_type}
use Rattle.table.specs.declared.Holder.{Holder}
use Rattle.table.specs.declared.Holder.TheVariants.{Nobody, JobZero, JobOne}
use Rattle.table.specs.Entries.{entry_at, is_free, unused, free_entry}
use Rattle.table.proofs.Entries.{never, at-is, free_here, free_next, free_end}
use Rattle.table.proofs.free_entry.Goals as goal
use Rattle.table.proofs.free_entry.Goals.{After-eq}

pub loop-k-init : goal.loop-k-init
unfolding free_entry
loop-k-init c = refl

-- whether the entry is free, as it was found
is_nobody : (h : Holder) → sameb the_type h Nobody ≡ is_free h
is_nobody Nobody = refl
is_nobody JobZero = refl
is_nobody JobOne = refl

free-is : (c : After-eq) → c.eq.result ≡ unused (entry_at c.args.t.now c.loop-k.k)
unfolding entry_at
free-is c = c.eq.ensures ∙ is_nobody c.from.result ∙ ap is_free c.from.ensures

pub returns-then-eq : goal.returns-then-eq
returns-then-eq c =
    let l = c.loop-k in
    let free = sym (free-is (goal.at.returns-then-eq c).After-eq) ∙ c.if-eq.true in
    (sym (free_here _ l.k (omega arith) free) ∙ l.invariant, λ i h. at-is l.k i 16 h (omega arith))

pub loop-k-preserved : goal.loop-k-preserved
loop-k-preserved c = free_next _ c.loop-k.k (omega arith) (sym (free-is (goal.at.loop-k-preserved c).After-eq) ∙ c.if-eq.false) ∙ c.loop-k.invariant

pub returns : goal.returns
returns c = (sym (free_end _ c.loop-k.k (omega arith)) ∙ c.loop-k.invariant, λ i h. never i h)
