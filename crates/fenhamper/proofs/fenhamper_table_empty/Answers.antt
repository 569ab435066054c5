-- `fenhamper::fenhamper_table_empty` meets its contract. Assumes nothing.
use Rattle.fenhamper.proofs.fenhamper_table_empty.Goals as goal

pub returns : goal.returns
returns c = c.empty.ensures
