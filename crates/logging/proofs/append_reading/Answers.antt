-- `logging::append_reading` meets its contract: the appending of the reading's record. Assumes nothing.
use mathlib.Core.Path.{ap, ◌∙◌}
use Rattle.reading_log.specs.Log.{appending}
use Rattle.logging.proofs.append_reading.Goals as goal

pub returns : goal.returns
returns c = c.append.ensures ∙ ap (appending _) c.record_of.ensures
