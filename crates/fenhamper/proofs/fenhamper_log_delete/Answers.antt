-- `fenhamper::fenhamper_log_delete` meets its contract. Assumes nothing.
use Rattle.fenhamper.proofs.Calls.{log_crosses}
use Rattle.fenhamper.proofs.fenhamper_log_delete.Goals as goal

pub returns : goal.returns
returns c = log_crosses c.logged_number.ensures c.delete.ensures
