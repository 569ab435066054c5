-- `outcome::bad_preamble` meets its contract: one comparison with the first octets. Assumes nothing.
use Rattle.std.proofs.lemmas.Slice.Eq.{slice_eq-Decides}
use Rattle.std.proofs.Common.{eqb-true}
use borrow.Author.Tests.{eq-eqb}
use Rattle.line.specs.Line.{preamble}
use Rattle.outcome.proofs.Rules.{preamble_told}
use Rattle.outcome.proofs.bad_preamble.Goals as goal

pub returns : goal.returns
unfolding preamble
returns c =
    let t = c.starts_with in
    preamble_told c.args.run.now t.result t.ensures.bound (slice_eq-Decides (λ a b. (eqb-true a b, eq-eqb a b)) _ _ t.result t.ensures.value)
