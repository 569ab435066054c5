-- `fenhamper::fenhamper_walk_log` meets its contract. Assumes nothing.
use mathlib.Core.Path.{ap₂, ◌∙◌}
use Rattle.station.specs.declared.State.{State}
use Rattle.station.specs.declared.Settings.{Settings}
use Rattle.table.specs.Entries.{entries_of}
use Rattle.logging.specs.Walks.{walk_logged}
use Rattle.fenhamper.proofs.Calls.{keep_crosses}
use Rattle.fenhamper.proofs.fenhamper_walk_log.Goals as goal

pub returns : goal.returns
returns c =
    let a = c.args in
    keep_crosses _ c.keep_numbers.ensures c.leave.ensures
    (c.walk_log-k.ensures
    ∙ ap₂ (λ (s : Settings) (st : State). walk_logged s a.job (entries_of a.table.now) st a.octets.now a.marks.now a.place a.log.now)
    c.settings.ensures c.state_of.ensures)
