-- `send::send_pause` meets its contract: refused, or written with the gap of its port. Assumes nothing.
use Rattle.std.specs.Prelude.{Ok}
use native.Mathlib.Omega.{arith}
use mathlib.Core.Path.{◌≡◌, sym, ◌∙◌}
use Rattle.writing.specs.Frames.{pause_body, pause_symbols}
use Rattle.writing.specs.Gaps.{gap_on}
use Rattle.send.specs.Sending.{pause_checked, pause_sending}
use Rattle.send.proofs.Refusals.{Framed, passed_control, stopped, goes}
use Rattle.send.proofs.Calls.{frame_refused, frame-wrote, has-terminate, room_with}
use Rattle.send.proofs.send_pause.Goals as goal
use Rattle.send.proofs.send_pause.Goals.{In-Ok}

told : (c : In-Ok) → let a = c.args in
    (pause_checked a.s a.port a.state.deficit a.octets.now a.marks.now a.place a.quanta ≡ Ok tt)
    × (c.in-Ok.gap ≡ gap_on a.port a.state.deficit a.place (pause_body a.s a.quanta))
told c = goes _ _ _ (sym c.in-Ok.is ∙ c.check_pause.ensures c.args.quanta)

known : (c : In-Ok) → let a = c.args in
    Framed a.s a.port a.state.deficit a.octets.now a.marks.now a.place (pause_body a.s a.quanta)
unfolding pause_checked
known c = (passed_control _ _ _ _ _ _ _ _ (told c).0).1

pub overflow_sub-gap : goal.overflow_sub-gap
overflow_sub-gap c = has-terminate _ _ _ _ (told (goal.at.overflow_sub-gap c).In-Ok).1

pub pause_at-next-requires : goal.pause_at-next-requires
unfolding pause_symbols
pause_at-next-requires c =
    let k = known (goal.at.pause_at-next-requires c).In-Ok in
    let e = k.even in
    let r = room_with _ _ _ _ (told (goal.at.pause_at-next-requires c).In-Ok).1 k.room in
    (omega arith, omega arith)

pub returns-in-Err : goal.returns-in-Err
unfolding pause_sending
returns-in-Err c =
    frame_refused _ _ _ _ _ _ _ _ (stopped _ _ _ (sym c.in-Err.is ∙ c.check_pause.ensures c.args.quanta)) c.refused.ensures

pub returns-in-Ok : goal.returns-in-Ok
unfolding pause_sending pause_symbols
returns-in-Ok c =
    frame-wrote _ _ _ _ _ _ _ c.in-Ok.gap (told (goal.at.returns-in-Ok c).In-Ok).1 (told (goal.at.returns-in-Ok c).In-Ok).0 c.pause_at-next.ensures c.wrote.ensures
