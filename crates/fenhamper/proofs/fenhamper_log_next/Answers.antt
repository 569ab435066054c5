-- `fenhamper::fenhamper_log_next` meets its contract. Assumes nothing.
use mathlib.Core.Path.{refl}
use Rattle.fenhamper.proofs.Calls.{step_crosses}
use Rattle.fenhamper.proofs.fenhamper_log_next.Goals as goal

pub returns : goal.returns
returns c = step_crosses _ c.give_record.ensures refl c.next_at-step.ensures
