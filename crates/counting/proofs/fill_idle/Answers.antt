-- `counting::fill_idle` meets its contract: refused, or made and its blocks counted anew. Assumes nothing.
use Rattle.std.specs.Prelude.{Ok}
use mathlib.Core.Path.{◌≡◌, sym, ◌∙◌}
use Rattle.line.specs.Table.{first}
use Rattle.totals.specs.Totals.{before_refusals}
use Rattle.totals.proofs.Tests.{Known, known}
use Rattle.counting.specs.Counting.{idle_counting}
use Rattle.counting.proofs.Calls.{count-refused, count-made, countable, idle_leaves}
use Rattle.counting.proofs.fill_idle.Goals as goal
use Rattle.counting.proofs.fill_idle.Goals.{In_default}

fine : (c : In_default) → let a = c.args in first (before_refusals a.octets.now a.marks.now a.place a.totals.now) ≡ Ok tt
fine c = sym c.check_before.ensures ∙ c.in_default.is

knows : (c : In_default) → let a = c.args in Known a.octets.now a.marks.now a.place a.totals.now
knows c = known _ _ _ _ (fine c)

pub returns-in-Err : goal.returns-in-Err
unfolding idle_counting
returns-in-Err c =
    count-refused _ _ _ _ _ _ _ _ (sym c.check_before.ensures ∙ c.in-Err.is) c.refused.ensures

pub recount-requires : goal.recount-requires
recount-requires c =
    let a = c.args in
    let k = countable _ (knows (goal.at.recount-requires c).In_default) (idle_leaves a.state _ _ _ _ (knows (goal.at.recount-requires c).In_default) a.n) c.fill_idle-sent.ensures in
    (k.even, k.inside, k.count)

pub returns : goal.returns
unfolding idle_counting
returns c =
    count-made _ _ _ _ _ _ _ (fine (goal.at.returns c).In_default) c.fill_idle-sent.ensures c.recount.ensures
