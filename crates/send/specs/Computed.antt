-- Internal: for a case that antt computes, `unfolding computed` opens every definition of this crate and of those below. It says nothing itself.
use Rattle.send.specs.Sending.{written, state_sent, send_checked, bad_class, bad_type, many_tags, long_data, no_room, held, client_refusals, control_refusals, idle_refusals, client_checked, pause_checked, pfc_checked, idle_checked, frame_sending, client_sending, pause_sending, pfc_sending, idle_sending}
use Rattle.flow.specs.Computed as flow
use Rattle.writing.specs.Computed as writing

unfoldable pub computed : Unit {0}
unfolding flow.computed writing.computed written state_sent send_checked bad_class bad_type many_tags long_data no_room held client_refusals control_refusals idle_refusals client_checked pause_checked pfc_checked idle_checked frame_sending client_sending pause_sending pfc_sending idle_sending
computed = tt
