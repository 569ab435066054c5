-- `receive::read` meets its contract: what is seen, and the state after it. Assumes nothing.
use Rattle.std.proofs.Common.{ap, ◌∙◌}
use Rattle.station.specs.declared.State.{State}
use Rattle.receive.specs.declared.Reading.{Reading}
use Rattle.receive.specs.Steps.{read_of}
use Rattle.receive.proofs.read.Goals as goal

pub returns : goal.returns
unfolding read_of
returns c =
    let l = c.look-seen in
    let seen : State → Reading = (λ st. record { answer = l.result.answer; start = l.result.start; next = l.result.next; state = st }) in
    ap seen c.state_after.ensures ∙ l.ensures.0 c.args.state
