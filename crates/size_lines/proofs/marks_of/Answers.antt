-- `size_lines::marks_of` meets its contract: each way out passes the rows that did not hold and stops at the one that did. Assumes nothing.
use Prim.Native.Nat.{ℕ}
use mathlib.Core.Path.{sym, ◌∙◌}
use borrow.Author.Rules.{rules}
use borrow.Author.Tests.{le-leb, lt-leb, eq-eqb, ne_eqb}
use Rattle.line.proofs.Tables.{first-here, first_next, first-other}
use Rattle.size_lines.specs.Bars.{marks}
use Rattle.size_lines.proofs.marks_of.Goals as goal

pub returns-then-whole-ge40 : goal.returns-then-whole-ge40
unfolding marks
returns-then-whole-ge40 c = (sym (first-here {A = ℕ} 40 _ (le-leb _ _ c.if-whole-ge40.true)), search rules)

pub returns-then-n-u-eq0 : goal.returns-then-n-u-eq0
unfolding marks
returns-then-n-u-eq0 c = (sym (first_next {A = ℕ} 40 _ (lt-leb _ _ c.if-whole-ge40.false) ∙ first-here {A = ℕ} _ _ (eq-eqb _ _ c.if-n-u-eq0.true)), search rules)

pub returns : goal.returns
unfolding marks
returns c = (
  sym (first_next {A = ℕ} 40 _ (lt-leb _ _ c.if-whole-ge40.false) ∙ first_next {A = ℕ} _ _ (ne_eqb _ _ c.if-n-u-eq0.false) ∙ first-other {A = ℕ} _),
  search rules,
)
