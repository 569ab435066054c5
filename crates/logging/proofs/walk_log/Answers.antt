-- `logging::walk_log` meets its contract. Assumes nothing.
use Rattle.std.specs.Prelude.{Ok}
use mathlib.Core.Path.{◌≡◌, sym, ◌∙◌}
use Rattle.line.specs.Table.{first}
use Rattle.table.specs.Entries.{entries_of}
use Rattle.logging.specs.Walks.{keep_refusals}
use Rattle.logging.proofs.Turns.{walk_refused}
use Rattle.logging.proofs.walk_log.Goals as goal
use Rattle.logging.proofs.walk_log.Goals.{In_default}

fine : (c : In_default)
    → let a = c.args in
    first (keep_refusals a.s a.job (entries_of a.table.now) a.octets.now a.marks.now a.place a.log.now) ≡ Ok tt
fine c = sym c.check_keep.ensures ∙ c.in_default.is

pub returns-in-Err : goal.returns-in-Err
returns-in-Err c = sym (walk_refused _ _ _ _ _ _ _ _ _ (sym c.check_keep.ensures ∙ c.in-Err.is))

pub keep_on-requires : goal.keep_on-requires
keep_on-requires c = fine (goal.at.keep_on-requires c).In_default

pub keep_on-requires-2 : goal.keep_on-requires-2
keep_on-requires-2 c = fine (goal.at.keep_on-requires-2 c).In_default
