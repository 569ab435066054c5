-- `fenhamper::fenhamper_read` meets its contract. Assumes nothing.
use mathlib.Core.Path.{ap₂, ◌∙◌}
use Rattle.station.specs.declared.State.{State}
use Rattle.station.specs.declared.Settings.{Settings}
use Rattle.table.specs.Entries.{entries_of}
use Rattle.receive.specs.Reading.{reading}
use Rattle.fenhamper.proofs.Calls.{read_crosses}
use Rattle.fenhamper.proofs.fenhamper_read.Goals as goal

pub returns : goal.returns
returns c =
    let a = c.args in
    read_crosses _ c.reading_numbers.ensures c.leave.ensures
    (c.read-r.ensures
    ∙ ap₂ (λ (s : Settings) (st : State). reading s a.job (entries_of a.table.now) st a.octets.now a.marks.now a.place) c.settings.ensures c.state_of.ensures)
