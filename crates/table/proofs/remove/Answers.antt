-- `table::remove` meets its contract: refused, or the entry freed. Assumes nothing.
use Rattle.std.proofs.lemmas.Result.{err_from_is_err_and}
use mathlib.Core.Path.{◌∙◌}
use Rattle.table.specs.Calls.{freed, removed}
use Rattle.table.proofs.Calls.{was_refused, went_on}
use Rattle.table.proofs.remove.Goals as goal

pub returns-in_err-check_remove : goal.returns-in_err-check_remove
unfolding removed
returns-in_err-check_remove c =
    let p = err_from_is_err_and c.from_residual.result c.from_residual.ensures.1 in
    rw (← c.find_address-found.ensures.0, ← c.check_remove.ensures c.find_address-found.ensures.0) (was_refused _ _ _ _ _ _ _ p.1 p.2 c.in_err-check_remove.was)

pub returns : goal.returns
unfolding removed freed
returns c =
    rw (← c.find_address-found.ensures.0, ← c.check_remove.ensures c.find_address-found.ensures.0)
    (c.put_at.ensures ∙ went_on _ _ _ _ c.in_ok-check_remove.was)
