-- `fenhamper::fenhamper_fill_totals` meets its contract. Assumes nothing.
use Rattle.fenhamper.proofs.Calls.{fill_crosses}
use Rattle.fenhamper.proofs.fenhamper_fill_totals.Goals as goal

pub returns : goal.returns
returns c = fill_crosses c.checked_number.ensures c.fill_totals.ensures
