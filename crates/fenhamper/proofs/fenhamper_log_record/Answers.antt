-- `fenhamper::fenhamper_log_record` meets its contract. Assumes nothing.
use mathlib.Core.Path.{ap, ◌∙◌}
use Rattle.crossing.specs.Given.{record_told}
use Rattle.fenhamper.proofs.fenhamper_log_record.Goals as goal

pub returns : goal.returns
returns c = c.give_record.ensures ∙ ap (record_told _) c.read_record.ensures
