-- `fenhamper::check_counted` meets its contract. Assumes nothing.
use mathlib.Core.Path.{ap₂, ◌∙◌}
use lib.ListN.{get_or}
use Rattle.line.specs.Table.{first}
use Rattle.station.specs.declared.Port.{Port}
use Rattle.station.specs.declared.Settings.{Settings}
use Rattle.counting.specs.Counting.{frame_totals}
use Rattle.crossing.specs.Records.{state_of}
use Rattle.fenhamper.proofs.check_counted.Goals as goal

pub returns : goal.returns
unfolding state_of
returns c =
    let a = c.args in
    c.check_frame.ensures
    ∙ ap₂ (λ (s : Settings) (p : Port). first (frame_totals s p (get_or a.state.now 19 0) a.octets.now a.marks.now a.place a.totals.now))
    c.settings.ensures c.port_of.ensures
