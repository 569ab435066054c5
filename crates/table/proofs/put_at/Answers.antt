-- `table::put_at` meets its contract: nothing was found, or the entry is put there. Assumes nothing.
use Rattle.std.proofs.lemmas.Result.{err_from_is_err_and}
use mathlib.Core.Path.{ap}
use Rattle.table.specs.Calls.{change, put_at}
use Rattle.table.proofs.Calls.{none_found}
use Rattle.table.proofs.put_at.Goals as goal

pub returns-in_err-k : goal.returns-in_err-k
returns-in_err-k c =
    let p = err_from_is_err_and c.from_residual.result c.from_residual.ensures.1 in
    let e = c.in_err-k.ensures in
    none_found _ _ _ _ _ _ p.1 p.2 e.value e.ok_part

pub returns : goal.returns
unfolding put_at
returns c = rw c.in_ok-k.ensures.ok_part (ap (change _) c.put_entry.ensures)
