-- `outcome::opens` meets its contract: equal words are equal octets. Assumes nothing.
use borrow.Author.Tests.{eqb-true}
use native.Mathlib.Omega.{arith}
use mathlib.Core.Path.{sym, ◌∙◌}
use mathlib.Core.Bool.{false≢true}
use Rattle.outcome.proofs.Plain.{same_opening}
use Rattle.outcome.proofs.opens.Goals as goal

pub returns-then-eight : goal.returns-then-eight
returns-then-eight c = λ h. absurd (false≢true h)

pub returns : goal.returns
returns c =
    let e = c in
    let k = e in
    let a = k.args in
    λ h. same_opening a.run.now a.want.now
    (λ i. omega (arith, k.shared_slice_known-2-1.given i)) (λ i. omega (arith, k.shared_slice_known-1.given i))
    (omega arith) k.requires.0
    (sym e.eight.ensures ∙ e.if-eight.false ∙ e.eight-2.ensures)
    (sym c.eight-3.ensures ∙ eqb-true _ _ h ∙ c.eight-4.ensures)
