-- `counting::send_pause` meets its contract: refused, or made and its blocks counted anew. Assumes nothing.
use Rattle.std.specs.Prelude.{Ok}
use mathlib.Core.Path.{◌≡◌, sym, ◌∙◌}
use Rattle.line.specs.Table.{first}
use Rattle.totals.proofs.Tests.{Known}
use Rattle.counting.specs.Counting.{frame_totals, pause_counting}
use Rattle.counting.proofs.Calls.{count-refused, count-made, countable, known_frame, pause_leaves}
use Rattle.counting.proofs.send_pause.Goals as goal
use Rattle.counting.proofs.send_pause.Goals.{In_default}

fine : (c : In_default) → let a = c.args in
    first (frame_totals a.s a.port a.state.deficit a.octets.now a.marks.now a.place a.totals.now) ≡ Ok tt
fine c = sym c.check_frame.ensures ∙ c.in_default.is

knows : (c : In_default) → let a = c.args in Known a.octets.now a.marks.now a.place a.totals.now
knows c = known_frame _ _ _ _ _ _ _ (fine c)

pub returns-in-Err : goal.returns-in-Err
unfolding pause_counting
returns-in-Err c =
    count-refused _ _ _ _ _ _ _ _ (sym c.check_frame.ensures ∙ c.in-Err.is) c.refused.ensures

pub recount-requires : goal.recount-requires
recount-requires c =
    let a = c.args in
    let k = countable _ (knows (goal.at.recount-requires c).In_default) (pause_leaves a.state _ _ _ _ (knows (goal.at.recount-requires c).In_default) a.s a.port a.quanta) c.send_pause-sent.ensures in
    (k.even, k.inside, k.count)

pub returns : goal.returns
unfolding pause_counting
returns c =
    count-made _ _ _ _ _ _ _ (fine (goal.at.returns c).In_default) c.send_pause-sent.ensures c.recount.ensures
