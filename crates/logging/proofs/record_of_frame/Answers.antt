-- `logging::record_of_frame` meets its contract: outcome 11 by `handed_out`, and the others hand out nothing. Assumes nothing.
use Prim.Native.Nat.{ℕ}
use mathlib.Core.Path.{sym, ap, ◌∙◌}
use Rattle.table.specs.Entries.{own_entries}
use Rattle.logging.specs.Records.{record_at}
use Rattle.logging.specs.Steps.{record_of_frame}
use Rattle.logging.proofs.Loops.{none-handed, laid_record}
use borrow.Enum.Refused.{opened}
use borrow.Author.Rules.{rules}
use Rattle.logging.proofs.record_of_frame.Goals as goal

pub returns-in-HandedOut : goal.returns-in-HandedOut
returns-in-HandedOut c =
    let a = c.args in
    c.handed_out.ensures ∙ ap (record_of_frame a.s (own_entries a.job a.table.now) a.start a.f.now) (sym c.in-HandedOut.is)

pub returns-in_default : goal.returns-in_default
returns-in_default c =
    let a = c.args in
    let own = own_entries a.job a.table.now in
    let h = c.in_default in
    c.record_at.ensures
    ∙ ap (λ (n : ℕ). record_at a.start n c.way_carried-way.result 0 c.status-word.result) c.outcome_number.ensures
    ∙ laid_record a.s own a.start a.f.now a.o _ _ _ _ c.layout_of.ensures c.way_carried-way.ensures
    (none-handed a.s own a.start a.f.now a.o (search (rules, opened))) c.status-word.ensures
