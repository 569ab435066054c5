-- `fenhamper::fenhamper_sizes_fresh` meets its contract. Assumes nothing.
use mathlib.Core.Path.{ap, ◌∙◌}
use Rattle.crossing.specs.Bands.{sizes_numbers}
use Rattle.fenhamper.proofs.fenhamper_sizes_fresh.Goals as goal

pub returns : goal.returns
returns c = c.sizes_numbers.ensures ∙ ap sizes_numbers c.fresh_sizes.ensures
