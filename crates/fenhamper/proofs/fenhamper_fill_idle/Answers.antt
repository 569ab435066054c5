-- `fenhamper::fenhamper_fill_idle` meets its contract. Assumes nothing.
use mathlib.Core.Path.{ap, ◌∙◌}
use Rattle.station.specs.declared.State.{State}
use Rattle.send.specs.Sending.{idle_sending}
use Rattle.fenhamper.proofs.Calls.{send_crosses}
use Rattle.fenhamper.proofs.fenhamper_fill_idle.Goals as goal

pub returns : goal.returns
returns c =
    let a = c.args in
    send_crosses _ c.sent_numbers.ensures c.leave.ensures
    (c.fill_idle-r.ensures ∙ ap (λ (st : State). idle_sending st a.octets.now a.marks.now a.place a.idles) c.state_of.ensures)
