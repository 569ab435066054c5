-- `fenhamper::fenhamper_log_delete_outcome` meets its contract. Assumes nothing.
use Rattle.fenhamper.proofs.Calls.{deleted_crosses}
use Rattle.fenhamper.proofs.fenhamper_log_delete_outcome.Goals as goal

pub returns : goal.returns
returns c = deleted_crosses _ c.give_number.ensures c.delete_outcome.ensures
