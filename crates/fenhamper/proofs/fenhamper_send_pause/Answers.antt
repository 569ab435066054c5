-- `fenhamper::fenhamper_send_pause` meets its contract. Assumes nothing.
use mathlib.Core.Path.{ap, ap₂, ◌∙◌}
use Rattle.station.specs.declared.Port.{Port}
use Rattle.station.specs.declared.State.{State}
use Rattle.station.specs.declared.Settings.{Settings}
use Rattle.send.specs.Sending.{pause_sending}
use Rattle.crossing.specs.Records.{settings_of, state_of, quanta_of}
use Rattle.fenhamper.proofs.Calls.{send_crosses}
use Rattle.fenhamper.proofs.fenhamper_send_pause.Goals as goal

pub returns : goal.returns
returns c =
    let a = c.args in
    send_crosses _ c.sent_numbers.ensures c.leave.ensures
    (c.send_pause-r.ensures
    ∙ ap₂ (λ (s : Settings) (st : State). pause_sending s st c.port_of.result a.octets.now a.marks.now a.place (quanta_of a.quanta)) c.settings.ensures c.state_of.ensures
    ∙ ap (λ (p : Port). pause_sending (settings_of a.s.now) (state_of a.state.now) p a.octets.now a.marks.now a.place (quanta_of a.quanta)) c.port_of.ensures)
