-- `fcs::Rows::fold` meets its contract: the register `r` is that of the octets from the one at `k` on.
-- Assumes nothing.
use mathlib.Core.Path.{◌≡◌}
use Prim.Native.Nat.{◌+◌, ◌-◌, ◌*◌}
use native.Mathlib.Omega.{arith}
use Rattle.fcs.proofs.Lent.{folded_none, folded}
use Rattle.fcs.proofs.Rows.fold.Goals as goal

pub loop-k-init : goal.loop-k-init
loop-k-init g c = folded_none (c.args.m + g.row.N - g.row.N) c.args.x (8 * g.row.N) c.requires.2

pub loop-k-preserved : goal.loop-k-preserved
loop-k-preserved g c =
    let n = c.args.m + g.row.N - c.loop-k.k in
    let k = c.loop-k.k - 1 in
    let above : 8 * c.loop-k.k ≡ 8 * k + 8 = omega arith in
    let place : c.args.m + g.row.N - 1 - k + 1 ≡ n + 1 = omega arith in
    let now : c.args.m + g.row.N - k ≡ n + 1 = omega arith in
    rw now (folded n k c.args.x c.loop-k.r c.entry-r.result (rw above at c.loop-k.invariant) (rw place at c.entry-r.ensures))
