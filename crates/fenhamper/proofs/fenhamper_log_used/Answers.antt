-- `fenhamper::fenhamper_log_used` meets its contract. Assumes nothing.
use mathlib.Core.Path.{ap, ◌∙◌}
use Rattle.crossing.specs.Given.{number_told}
use Rattle.fenhamper.proofs.fenhamper_log_used.Goals as goal

pub returns : goal.returns
returns c = c.give_number.ensures ∙ ap (number_told _) c.used_records.ensures
