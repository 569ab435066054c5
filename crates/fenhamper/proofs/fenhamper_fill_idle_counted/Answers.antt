-- `fenhamper::fenhamper_fill_idle_counted` meets its contract: refused by the tests up to 22, or the exported call without totals and its blocks counted
-- anew. Assumes nothing.
use Rattle.std.specs.Prelude.{Ok}
use mathlib.Core.Path.{◌≡◌, sym, ◌∙◌}
use Rattle.line.specs.Table.{first}
use Rattle.totals.specs.Totals.{before_refusals}
use Rattle.totals.proofs.Tests.{known}
use Rattle.counting.specs.Counting.{idle_counting}
use Rattle.counting.proofs.Calls.{idle_leaves}
use Rattle.crossing.specs.Records.{state_of}
use Rattle.fenhamper.proofs.Calls.{refused_crosses, made_crosses, countable_crossed}
use Rattle.fenhamper.proofs.fenhamper_fill_idle_counted.Goals as goal
use Rattle.fenhamper.proofs.fenhamper_fill_idle_counted.Goals.{In_default}

fine : (c : In_default) → let a = c.args in
    first (before_refusals a.octets.now a.marks.now a.place a.totals.now) ≡ Ok tt
fine c = sym c.check_before.ensures ∙ c.in_default.is

pub returns-in-Err : goal.returns-in-Err
unfolding idle_counting
returns-in-Err c =
    refused_crosses _ _ _ _ _ _ _ _ _ (sym c.check_before.ensures ∙ c.in-Err.is) c.refused_numbers.ensures

pub recount-requires : goal.recount-requires
recount-requires c =
    let a = c.args in
    let k = known _ _ _ _ (fine (goal.at.recount-requires c).In_default) in
    let n = countable_crossed _ _ k (idle_leaves (state_of a.state.now) _ _ _ _ k a.idles) c.fenhamper_fill_idle.ensures in
    (n.even, n.inside, n.count)

pub returns : goal.returns
unfolding idle_counting
returns c =
    made_crosses _ _ _ _ _ _ _ _ (fine (goal.at.returns c).In_default) c.fenhamper_fill_idle.ensures c.recount.ensures
