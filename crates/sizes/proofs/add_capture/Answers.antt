-- `sizes::add_capture` meets its contract. Assumes nothing.
use Rattle.std.specs.Prelude.{Ok}
use Rattle.std.proofs.Common.{◌≡◌, sym, ap, ◌∙◌}
use Rattle.line.specs.Table.{first}
use Rattle.table.specs.Entries.{entries_of}
use Rattle.receive.specs.Reading.{read_refusals}
use Rattle.sizes.specs.declared.SizeTable.{SizeTable}
use Rattle.sizes.specs.declared.Added.{Added}
use Rattle.sizes.proofs.Laws.{add-refused, add_fine}
use Rattle.sizes.proofs.add_capture.Goals as goal
use Rattle.sizes.proofs.add_capture.Goals.{In_default}

-- a capture that is not refused: the table that the walk gives
abbrev gives : SizeTable → Added
gives x = record { answer = Ok tt; sizes = x }

fine : (c : In_default) → let a = c.args in
    first (read_refusals a.s a.job (entries_of a.table.now) a.octets.now a.marks.now 0) ≡ Ok tt
fine c = sym c.check_read.ensures ∙ c.in_default.is

pub returns-in-Err : goal.returns-in-Err
returns-in-Err c = sym (add-refused _ _ _ _ _ _ _ (sym c.check_read.ensures ∙ c.in-Err.is))

pub add_walk-requires : goal.add_walk-requires
add_walk-requires c = fine (goal.at.add_walk-requires c).In_default

pub returns-then-not-tables_pay : goal.returns-then-not-tables_pay
returns-then-not-tables_pay c = ap gives c.add_walk.ensures ∙ sym (add_fine _ _ _ _ _ _ (fine (goal.at.returns-then-not-tables_pay c).In_default))

pub add_walk-requires-2 : goal.add_walk-requires-2
add_walk-requires-2 c = fine (goal.at.add_walk-requires-2 c).In_default

pub returns : goal.returns
returns c = ap gives c.add_walk-2.ensures ∙ sym (add_fine _ _ _ _ _ _ (fine (goal.at.returns c).In_default))
