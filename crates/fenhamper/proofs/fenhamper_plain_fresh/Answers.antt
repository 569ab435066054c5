-- `fenhamper::fenhamper_plain_fresh` meets its contract. Assumes nothing.
use mathlib.Core.Path.{ap, ◌∙◌}
use Rattle.plain.specs.Plain.{fresh_plain}
use Rattle.crossing.specs.Reader.{reader_told}
use Rattle.fenhamper.proofs.fenhamper_plain_fresh.Goals as goal

pub returns : goal.returns
returns c = c.give_reader.ensures ∙ ap reader_told (c.fresh.ensures ∙ ap fresh_plain c.fresh_state.ensures)
