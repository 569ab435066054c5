-- `fenhamper::fenhamper_send_pfc_counted` meets its contract: refused by the tests up to 22, or the exported call without totals and its blocks counted anew. Assumes nothing.
use Rattle.std.specs.Prelude.{Ok}
use mathlib.Core.Path.{◌≡◌, sym, ◌∙◌}
use Rattle.line.specs.Table.{first}
use Rattle.counting.specs.Counting.{frame_totals, pfc_counting}
use Rattle.counting.proofs.Calls.{known_frame, pfc_leaves}
use Rattle.crossing.specs.Records.{settings_of, state_of, port_of, classes_of}
use Rattle.fenhamper.proofs.Calls.{refused_crosses, made_crosses, countable_crossed}
use Rattle.fenhamper.proofs.fenhamper_send_pfc_counted.Goals as goal
use Rattle.fenhamper.proofs.fenhamper_send_pfc_counted.Goals.{In_default}

fine : (c : In_default) → let a = c.args in
    first (frame_totals (settings_of a.s.now) (port_of a.port) (state_of a.state.now).deficit a.octets.now a.marks.now a.place a.totals.now) ≡ Ok tt
fine c = sym c.check_counted.ensures ∙ c.in_default.is

pub returns-in-Err : goal.returns-in-Err
unfolding pfc_counting
returns-in-Err c =
    refused_crosses _ _ _ _ _ _ _ _ _ (sym c.check_counted.ensures ∙ c.in-Err.is) c.refused_numbers.ensures

pub recount-requires : goal.recount-requires
recount-requires c =
    let a = c.args in
    let k = known_frame _ _ _ _ _ _ _ (fine (goal.at.recount-requires c).In_default) in
    let n = countable_crossed _ _ k (pfc_leaves (state_of a.state.now) _ _ _ _ k (settings_of a.s.now) (port_of a.port) (classes_of a.named a.quanta.now))
    c.fenhamper_send_pfc.ensures in
    (n.even, n.inside, n.count)

pub returns : goal.returns
unfolding pfc_counting
returns c =
    made_crosses _ _ _ _ _ _ _ _ (fine (goal.at.returns c).In_default) c.fenhamper_send_pfc.ensures c.recount.ensures
