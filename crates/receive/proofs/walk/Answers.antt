-- `receive::walk` meets its contract. Assumes nothing.
use Rattle.std.specs.Prelude.{Ok}
use Rattle.std.proofs.Common.{◌≡◌, sym, ◌∙◌}
use Rattle.line.specs.Table.{first}
use Rattle.table.specs.Entries.{entries_of}
use Rattle.receive.specs.Reading.{read_refusals}
use Rattle.receive.proofs.Walks.{walked-refused}
use Rattle.receive.proofs.walk.Goals as goal
use Rattle.receive.proofs.walk.Goals.{In_default}

fine : (c : In_default) → let a = c.args in
    first (read_refusals a.s a.job (entries_of a.table.now) a.octets.now a.marks.now 0) ≡ Ok tt
fine c = sym c.check_read.ensures ∙ c.in_default.is

pub returns-in-Err : goal.returns-in-Err
returns-in-Err c = sym (walked-refused _ _ _ _ _ _ _ (sym c.check_read.ensures ∙ c.in-Err.is))

pub walk_on-requires : goal.walk_on-requires
walk_on-requires c = fine (goal.at.walk_on-requires c).In_default

pub walk_on-requires-2 : goal.walk_on-requires-2
walk_on-requires-2 c = fine (goal.at.walk_on-requires-2 c).In_default
