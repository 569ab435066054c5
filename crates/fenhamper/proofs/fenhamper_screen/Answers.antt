-- `fenhamper::fenhamper_screen` meets its contract. Assumes nothing.
use mathlib.Core.Path.{ap, ◌∙◌}
use Rattle.station.specs.Station.{screen_of}
use Rattle.crossing.specs.Records.{state_of}
use Rattle.fenhamper.proofs.fenhamper_screen.Goals as goal

pub returns : goal.returns
unfolding state_of
returns c = c.screen.ensures ∙ ap screen_of c.counters.ensures
