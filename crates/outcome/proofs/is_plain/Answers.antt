-- `outcome::is_plain` meets its contract: what is not left to the rules. Assumes nothing.
use borrow.Author.Rules.{rules}
use borrow.Author.Tests.{not-false}
use native.Mathlib.Omega.{arith}
use mathlib.Core.Path.{◌∙◌, subst}
use mathlib.Core.Bool.{false≢true}
use Rattle.outcome.specs.Plain.{Ordinary}
use Rattle.outcome.proofs.Plain.{field_of_run, single_of}
use Rattle.outcome.proofs.is_plain.Goals as goal

pub returns-then-by-ne253 : goal.returns-then-by-ne253
returns-then-by-ne253 c = λ h. absurd (false≢true h)

pub returns-then-run-lt-LEAST_RUN : goal.returns-then-run-lt-LEAST_RUN
returns-then-run-lt-LEAST_RUN c = λ h. absurd (false≢true h)

pub returns-then-from-run : goal.returns-then-from-run
returns-then-from-run c = λ h. absurd (false≢true h)

pub opens-requires : goal.opens-requires
opens-requires c = (search rules, omega arith)

pub returns-then-not-opens : goal.returns-then-not-opens
returns-then-not-opens c = λ h. absurd (false≢true h)

pub returns-then-want-eq1 : goal.returns-then-want-eq1
returns-then-want-eq1 c = λ h. absurd (false≢true h)

pub returns : goal.returns
returns c =
    let a = c.args in
    let run = a.run.now in
    λ h. record {
      ended = c.if-by-ne253.false;
      opens = c.opens.ensures (not-false _ c.if-not-opens.false-raw);
      single = single_of a.want.now c.if-want-eq1.false;
      long = omega arith;
      within = omega arith;
      ordinary = subst Ordinary (c.high_first.ensures ∙ field_of_run run) (c.is_ordinary.ensures h);
    }
