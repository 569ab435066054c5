-- `totals::sum_of` meets its contract. The invariant: the sum is that of the totals passed, 256 for each at most. Assumes nothing.
use Prim.Native.Nat.{ℕ}
use native.Mathlib.Omega.{arith}
use mathlib.Core.Path.{◌≡◌, refl, ap, ◌∙◌}
use lib.ListN.{take}
use Rattle.station.specs.Station.{total}
use Rattle.totals.proofs.Tests.{each_low, sum-next}
use Rattle.totals.proofs.sum_of.Goals as goal

pub loop-i-init : goal.loop-i-init
unfolding total
loop-i-init c = (omega arith, refl)

pub overflow_add-sum : goal.overflow_add-sum
overflow_add-sum c =
    let k = each_low _ c.requires.2 c.loop-i.i in
    let n = c.requires.1 in
    omega arith

pub loop-i-preserved : goal.loop-i-preserved
loop-i-preserved c =
    let k = each_low _ c.requires.2 c.loop-i.i in
    let s = sum-next c.args.totals.now c.loop-i.i (omega arith) in
    (omega arith, omega arith)

pub returns : goal.returns
returns c =
    let l = c.loop-i in
    let last : l.i ≡ c.args.n = omega arith in
    (l.invariant.1 ∙ ap (λ (k : ℕ). total (take k c.args.totals.now)) last, omega arith)
