-- `table::add` meets its contract: refused, or the lowest free entry taken. Assumes nothing.
use Rattle.std.proofs.lemmas.Result.{err_from_is_err_and}
use mathlib.Core.Path.{◌∙◌}
use Rattle.table.specs.Calls.{added}
use Rattle.table.proofs.Calls.{was_refused, went_on}
use Rattle.table.proofs.add.Goals as goal

pub returns-in_err-check_add : goal.returns-in_err-check_add
unfolding added
returns-in_err-check_add c =
    let p = err_from_is_err_and c.from_residual.result c.from_residual.ensures.1 in
    rw (← c.free_entry-free.ensures.0, ← c.check_add.ensures c.free_entry-free.ensures.0) (was_refused _ _ _ _ _ _ _ p.1 p.2 c.in_err-check_add.was)

pub returns : goal.returns
unfolding added
returns c =
    rw (← c.free_entry-free.ensures.0, ← c.check_add.ensures c.free_entry-free.ensures.0, ← c.taken_by.ensures)
    (c.put_at.ensures ∙ went_on _ _ _ _ c.in_ok-check_add.was)
