-- `fenhamper::fenhamper_walk` meets its contract. Assumes nothing.
use mathlib.Core.Path.{ap₂, ◌∙◌}
use Rattle.station.specs.declared.State.{State}
use Rattle.station.specs.declared.Settings.{Settings}
use Rattle.table.specs.Entries.{entries_of}
use Rattle.receive.specs.Walk.{walked}
use Rattle.fenhamper.proofs.Calls.{walk_crosses}
use Rattle.fenhamper.proofs.fenhamper_walk.Goals as goal

pub returns : goal.returns
returns c =
    let a = c.args in
    walk_crosses _ c.walk_numbers.ensures c.leave.ensures
    (c.walk-w.ensures
    ∙ ap₂ (λ (s : Settings) (st : State). walked s a.job (entries_of a.table.now) st a.octets.now a.marks.now) c.settings.ensures c.state_of.ensures)
