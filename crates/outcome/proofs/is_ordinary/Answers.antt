-- `outcome::is_ordinary` meets its contract. Assumes nothing.
use borrow.Author.Tests.{eqb-false, not-true}
use native.Mathlib.Omega.{arith}
use mathlib.Core.Path.{sym, ◌∙◌}
use mathlib.Core.Bool.{false≢true}
use Rattle.outcome.proofs.is_ordinary.Goals as goal

pub returns-then-field-lt-LEAST_TYPE : goal.returns-then-field-lt-LEAST_TYPE
returns-then-field-lt-LEAST_TYPE c = λ h. absurd (false≢true h)

pub returns-then-is_tag_kind : goal.returns-then-is_tag_kind
returns-then-is_tag_kind c = λ h. absurd (false≢true h)

pub returns : goal.returns
returns c = λ h. record {
  untagged = sym c.is_tag_kind.ensures ∙ c.if-is_tag_kind.false;
  type = omega arith;
  uncontrolled = eqb-false _ _ (not-true _ h);
}
