-- `totals::fill_totals` meets its contract: refused, or every block counted (`all_counted`). Assumes nothing.
use Rattle.std.specs.Prelude.{Ok}
use Rattle.std.proofs.lemmas.Result.{err_from_is_err_and}
use mathlib.Core.Path.{◌≡◌, sym, ap, ◌∙◌}
use Prim.Native.Nat.{ℕ}
use native.Mathlib.Omega.{arith}
use Rattle.line.specs.Line.{capture}
use Rattle.line.specs.Table.{first}
use Rattle.line.proofs.Buffers.{length-capture}
use Rattle.totals.specs.Totals.{blocks, recounted, fill_refusals, filling, fill_checked, filled}
use Rattle.totals.proofs.Laws.{all_counted}
use Rattle.totals.proofs.Tests.{known_fill}
use Rattle.totals.proofs.fill_totals.Goals as goal
use Rattle.totals.proofs.fill_totals.Goals.{In_ok-check_fill}

fine : (c : In_ok-check_fill) → let a = c.args in first (fill_refusals a.octets.now a.marks.now a.totals.now) ≡ Ok tt
fine c = sym c.check_fill.ensures ∙ c.in_ok-check_fill.was

pub returns-in_err-check_fill : goal.returns-in_err-check_fill
unfolding filled fill_checked
returns-in_err-check_fill c =
    let p = err_from_is_err_and c.from_residual.result c.from_residual.ensures.1 in
    rw (p.1, p.2, ← c.check_fill.ensures, c.in_err-check_fill.was)

pub recount-requires : goal.recount-requires
recount-requires c = let k = known_fill _ _ _ (fine (goal.at.recount-requires c).In_ok-check_fill) in (k.0, omega arith, k.1)

pub returns : goal.returns
unfolding filled fill_checked
returns c =
    let a = c.args in
    let os = a.octets.now in
    let k = known_fill _ _ _ (fine (goal.at.returns c).In_ok-check_fill) in
    let n = length-capture os a.marks.now k.0 in
    rw (fine (goal.at.returns c).In_ok-check_fill)
    (ap (filling (Ok tt))
    (c.recount.ensures
    ∙ ap (λ (m : ℕ). recounted (capture os a.marks.now) 0 m a.totals.now) (sym n)
    ∙ all_counted (capture os a.marks.now) a.totals.now (k.1 ∙ ap blocks (sym n))))
