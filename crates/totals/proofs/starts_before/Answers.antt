-- `totals::starts_before` meets its contract: refused, or the whole blocks and a look into the last. Assumes nothing.
use Rattle.std.specs.Prelude.{Ok}
use Rattle.std.proofs.lemmas.Result.{err_from_is_err_and}
use mathlib.Core.Path.{◌≡◌, sym, ap₂, ◌∙◌}
use Prim.Native.Nat.{ℕ, ◌+◌}
use native.Mathlib.Omega.{arith}
use Rattle.line.specs.Table.{first}
use Rattle.totals.specs.Totals.{answer, before_refusals, before_checked, before_place}
use Rattle.totals.proofs.Tests.{known}
use Rattle.totals.proofs.starts_before.Goals as goal
use Rattle.totals.proofs.starts_before.Goals.{In_ok-check_before}

fine : (c : In_ok-check_before) → let a = c.args in first (before_refusals a.octets.now a.marks.now a.place a.totals.now) ≡ Ok tt
fine c = sym c.check_before.ensures ∙ c.in_ok-check_before.was

pub returns-in_err-check_before : goal.returns-in_err-check_before
unfolding before_place before_checked
returns-in_err-check_before c =
    let p = err_from_is_err_and c.from_residual.result c.from_residual.ensures.1 in
    rw (p.1, p.2, ← c.check_before.ensures, c.in_err-check_before.was)

pub sum_of-sum-requires : goal.sum_of-sum-requires
sum_of-sum-requires c =
    let k = known _ _ _ _ (fine (goal.at.sum_of-sum-requires c).In_ok-check_before) in
    let n = k.count in
    let s = k.small in
    let p = k.inside in
    (omega arith, omega arith, k.low)

pub starts_in-last-requires : goal.starts_in-last-requires
starts_in-last-requires c =
    let k = known _ _ _ _ (fine (goal.at.starts_in-last-requires c).In_ok-check_before) in
    let e = k.even in
    let p = k.inside in
    (omega arith, omega arith, omega arith, omega arith)

pub returns : goal.returns
unfolding before_place before_checked answer
returns c =
    rw (fine (goal.at.returns c).In_ok-check_before)
    (ap₂ (λ (x y : ℕ). Ok (x + y)) c.sum_of-sum.ensures.0 (c.from.ensures ∙ c.starts_in-last.ensures))
