-- `fenhamper::fenhamper_log_append_reading` meets its contract. Assumes nothing.
use mathlib.Core.Path.{ap, ◌∙◌}
use Rattle.reading_log.specs.Log.{appending}
use Rattle.fenhamper.proofs.Calls.{log_crosses}
use Rattle.fenhamper.proofs.fenhamper_log_append_reading.Goals as goal

pub returns : goal.returns
returns c = log_crosses c.logged_number.ensures (c.append.ensures ∙ ap (appending _) c.record_named.ensures)
