-- `fenhamper::fenhamper_send_client_counted` meets its contract: refused by the tests up to 22, or the exported call without totals and its blocks counted anew. Assumes nothing.
use Rattle.std.specs.Prelude.{Ok}
use mathlib.Core.Path.{◌≡◌, sym, ◌∙◌}
use Rattle.line.specs.Table.{first}
use Rattle.counting.specs.Counting.{frame_totals, client_counting}
use Rattle.counting.proofs.Calls.{known_frame, client_leaves}
use Rattle.crossing.specs.Records.{settings_of, state_of, port_of, client_of}
use Rattle.fenhamper.proofs.Calls.{refused_crosses, made_crosses, countable_crossed}
use Rattle.fenhamper.proofs.fenhamper_send_client_counted.Goals as goal
use Rattle.fenhamper.proofs.fenhamper_send_client_counted.Goals.{In_default}

fine : (c : In_default) → let a = c.args in
    first (frame_totals (settings_of a.s.now) (port_of a.port) (state_of a.state.now).deficit a.octets.now a.marks.now a.place a.totals.now) ≡ Ok tt
fine c = sym c.check_counted.ensures ∙ c.in_default.is

pub returns-in-Err : goal.returns-in-Err
unfolding client_counting
returns-in-Err c =
    refused_crosses _ _ _ _ _ _ _ _ _ (sym c.check_counted.ensures ∙ c.in-Err.is) c.refused_numbers.ensures

pub recount-requires : goal.recount-requires
recount-requires c =
    let a = c.args in
    let k = known_frame _ _ _ _ _ _ _ (fine (goal.at.recount-requires c).In_default) in
    let n = countable_crossed _ _ k (client_leaves (state_of a.state.now) _ _ _ _ k (settings_of a.s.now) (port_of a.port) (client_of a.frame.now) a.«data».now)
    c.fenhamper_send_client.ensures in
    (n.even, n.inside, n.count)

pub returns : goal.returns
unfolding client_counting
returns c =
    made_crosses _ _ _ _ _ _ _ _ (fine (goal.at.returns c).In_default) c.fenhamper_send_client.ensures c.recount.ensures
