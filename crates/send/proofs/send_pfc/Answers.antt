-- `send::send_pfc` meets its contract: refused, or written with the gap of its port. Assumes nothing.
use Rattle.std.specs.Prelude.{Ok}
use native.Mathlib.Omega.{arith}
use mathlib.Core.Path.{◌≡◌, sym, ◌∙◌}
use lib.ListN.{length}
use borrow.Author.Rules.{rules}
use Rattle.writing.specs.Frames.{pfc_body, pfc_symbols}
use Rattle.writing.specs.Gaps.{gap_on}
use Rattle.writing.proofs.Sizes.{length_mapped}
use Rattle.send.specs.Sending.{pfc_checked, pfc_sending}
use Rattle.send.proofs.Refusals.{Framed, passed_control, stopped, goes}
use Rattle.send.proofs.Calls.{frame_refused, frame-wrote, has-terminate, room_with}
use Rattle.send.proofs.send_pfc.Goals as goal
use Rattle.send.proofs.send_pfc.Goals.{In-Ok, Start}

-- the eight quanta of the struct
eight : (c : Start) → length c.args.classes.quanta ≡ 8
eight c = search (length_mapped, rules)

told : (c : In-Ok) → let a = c.args in
    (pfc_checked a.s a.port a.state.deficit a.octets.now a.marks.now a.place a.classes ≡ Ok tt)
    × (c.in-Ok.gap ≡ gap_on a.port a.state.deficit a.place (pfc_body a.s a.classes))
told c = goes _ _ _ (sym c.in-Ok.is ∙ c.check_pfc.ensures c.args.classes (eight (goal.at.In-Ok c).Start))

known : (c : In-Ok) → let a = c.args in
    Framed a.s a.port a.state.deficit a.octets.now a.marks.now a.place (pfc_body a.s a.classes)
unfolding pfc_checked
known c = (passed_control _ _ _ _ _ _ _ _ (told c).0).1

pub overflow_sub-gap : goal.overflow_sub-gap
overflow_sub-gap c = has-terminate _ _ _ _ (told (goal.at.overflow_sub-gap c).In-Ok).1

pub pfc_at-next-requires : goal.pfc_at-next-requires
unfolding pfc_symbols
pfc_at-next-requires c =
    let k = known (goal.at.pfc_at-next-requires c).In-Ok in
    let e = k.even in
    let r = room_with _ _ _ _ (told (goal.at.pfc_at-next-requires c).In-Ok).1 k.room in
    (omega arith, omega arith)

pub returns-in-Err : goal.returns-in-Err
unfolding pfc_sending
returns-in-Err c =
    frame_refused _ _ _ _ _ _ _ _ (stopped _ _ _ (sym c.in-Err.is ∙ c.check_pfc.ensures c.args.classes (eight (goal.at.returns-in-Err c).Start))) c.refused.ensures

pub returns-in-Ok : goal.returns-in-Ok
unfolding pfc_sending pfc_symbols
returns-in-Ok c =
    frame-wrote _ _ _ _ _ _ _ c.in-Ok.gap (told (goal.at.returns-in-Ok c).In-Ok).1 (told (goal.at.returns-in-Ok c).In-Ok).0 c.pfc_at-next.ensures c.wrote.ensures
