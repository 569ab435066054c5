-- `send::send_client` meets its contract: refused, or written with the gap of its port. Assumes nothing.
use Rattle.std.specs.Prelude.{Ok}
use native.Mathlib.Omega.{arith}
use mathlib.Core.Path.{◌≡◌, sym, ◌∙◌}
use Rattle.writing.specs.Frames.{client_body, client_symbols}
use Rattle.writing.specs.Gaps.{gap_on}
use Rattle.send.specs.Sending.{client_checked, client_sending}
use Rattle.send.proofs.Refusals.{Passed, passed, stopped, goes}
use Rattle.send.proofs.Calls.{frame_refused, frame-wrote, has-terminate, room_with}
use Rattle.send.proofs.send_client.Goals as goal
use Rattle.send.proofs.send_client.Goals.{In-Ok}

told : (c : In-Ok) → let a = c.args in
    (client_checked a.s a.state a.port a.octets.now a.marks.now a.place a.client a.«data».now ≡ Ok tt)
    × (c.in-Ok.gap ≡ gap_on a.port a.state.deficit a.place (client_body a.s a.client a.«data».now))
told c = goes _ _ _ (sym c.in-Ok.is ∙ c.check_client.ensures)

known : (c : In-Ok) → let a = c.args in
    Passed a.s a.state a.port a.octets.now a.marks.now a.place a.client a.«data».now
known c = passed _ _ _ _ _ _ _ _ (told c).0

pub overflow_sub-gap : goal.overflow_sub-gap
overflow_sub-gap c = has-terminate _ _ _ _ (told (goal.at.overflow_sub-gap c).In-Ok).1

pub client_at-next-requires : goal.client_at-next-requires
unfolding client_symbols
client_at-next-requires c =
    let k = known (goal.at.client_at-next-requires c).In-Ok in
    let e = k.framed.even in
    let s = k.data_small in
    let r = room_with _ _ _ _ (told (goal.at.client_at-next-requires c).In-Ok).1 k.framed.room in
    (omega arith, omega arith, omega arith, k.tags)

pub returns-in-Err : goal.returns-in-Err
unfolding client_sending
returns-in-Err c =
    frame_refused _ _ _ _ _ _ _ _ (stopped _ _ _ (sym c.in-Err.is ∙ c.check_client.ensures)) c.refused.ensures

pub returns-in-Ok : goal.returns-in-Ok
unfolding client_sending client_symbols
returns-in-Ok c =
    frame-wrote _ _ _ _ _ _ _ c.in-Ok.gap (told (goal.at.returns-in-Ok c).In-Ok).1 (told (goal.at.returns-in-Ok c).In-Ok).0 c.client_at-next.ensures c.wrote.ensures
