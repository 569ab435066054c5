-- `fenhamper::fenhamper_fresh_state` meets its contract. Assumes nothing.
use mathlib.Core.Path.{ap, ◌∙◌}
use Rattle.crossing.specs.Records.{state_numbers}
use Rattle.fenhamper.proofs.fenhamper_fresh_state.Goals as goal

pub returns : goal.returns
returns c = c.state_numbers.ensures ∙ ap state_numbers c.fresh_state.ensures
