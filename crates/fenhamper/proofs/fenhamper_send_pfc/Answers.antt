-- `fenhamper::fenhamper_send_pfc` meets its contract. Assumes nothing.
use mathlib.Core.Path.{ap₂, ◌∙◌}
use Rattle.station.specs.declared.Port.{Port}
use Rattle.station.specs.declared.State.{State}
use Rattle.station.specs.declared.Settings.{Settings}
use Rattle.writing.specs.declared.Classes.{Classes}
use Rattle.send.specs.Sending.{pfc_sending}
use Rattle.crossing.specs.Records.{settings_of, state_of}
use Rattle.fenhamper.proofs.Calls.{send_crosses}
use Rattle.fenhamper.proofs.fenhamper_send_pfc.Goals as goal

pub returns : goal.returns
returns c =
    let a = c.args in
    send_crosses _ c.sent_numbers.ensures c.leave.ensures
    (c.send_pfc-r.ensures
    ∙ ap₂ (λ (s : Settings) (st : State). pfc_sending s st c.port_of.result a.octets.now a.marks.now a.place c.classes.result) c.settings.ensures c.state_of.ensures
    ∙ ap₂ (λ (p : Port) (k : Classes). pfc_sending (settings_of a.s.now) (state_of a.state.now) p a.octets.now a.marks.now a.place k) c.port_of.ensures c.classes.ensures)
