-- `totals::starts_in_half` meets its contract. The invariant: what was counted, and what is left to count, are together the whole. Assumes nothing.
use Prim.Native.Nat.{◌≤◌}
use native.Mathlib.Omega.{arith}
use lib.ListN.{get_or}
use Rattle.line.specs.Line.{capture, is_start}
use Rattle.totals.proofs.Laws.{one_more, none_left}
use Rattle.totals.proofs.Tests.{one-small}
use Rattle.totals.proofs.starts_in_half.Goals as goal
use Rattle.totals.proofs.starts_in_half.Goals.{After-one-n}

small : (c : After-one-n) → c.one-n.result ≤ 1
small c = one-small _ (is_start (record { octet = get_or c.args.octets.now c.loop-i.i 0; mark = get_or c.args.marks.now c.loop-i.i 0 })) c.one-n.ensures

pub overflow_add-n : goal.overflow_add-n
overflow_add-n c = let o = small (goal.at.overflow_add-n c).After-one-n in omega arith

pub loop-i-preserved : goal.loop-i-preserved
loop-i-preserved c =
    let a = c.args in
    let o = small (goal.at.loop-i-preserved c).After-one-n in
    let m = one_more a.octets.now a.marks.now c.loop-i.i a.to (omega arith) (omega arith) (omega arith) in
    (omega arith, omega (arith, c.one-n.ensures))

pub returns : goal.returns
returns c =
    let a = c.args in
    let z = none_left (capture a.octets.now a.marks.now) c.loop-i.i a.to (omega arith) in
    omega arith
