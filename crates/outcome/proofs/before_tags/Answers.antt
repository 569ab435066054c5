-- `outcome::before_tags` meets its contract: each way out passes the rows that did not hold and stops at the one that did. Assumes nothing.
use Rattle.std.specs.Prelude.{None, Some}
use Prim.Native.Nat.{ℕ}
use mathlib.Core.Path.{◌≡◌, sym, ap, ◌∙◌}
use Rattle.line.specs.Table.{first}
use Rattle.line.proofs.Tables.{first-here, first_next, first-other}
use Rattle.station.specs.declared.Outcome.TheVariants.{Cut, BadPreamble, Undersized}
use Rattle.frame.specs.Frame.{undersized}
use Rattle.outcome.specs.Outcomes.{frame_of}
use Rattle.outcome.specs.Steps.{early_outcomes}
use Rattle.outcome.proofs.Rules.{cut_by, not-cut, after, row_holds_lem, row_passed}
use Rattle.outcome.proofs.before_tags.Goals as goal
use Rattle.outcome.proofs.before_tags.Goals.{After-undersized, Else-bad_preamble, Else-by-ne253, Else-undersized, Start}

abbrev past : ℕ → Start → Type 0
past n c = first ((early_outcomes c.args.run.now c.args.by)) ≡ first (after n ((early_outcomes c.args.run.now c.args.by)))

-- what the test of the frame says of the run's frame
small : (c : After-undersized) → c.undersized.result ≡ undersized (frame_of c.args.run.now)
small c = c.undersized.ensures ∙ ap undersized c.frame_of-f.ensures

past-1 : (c : Else-by-ne253) → past 1 (goal.at.Else-by-ne253 c).Start
unfolding early_outcomes
past-1 c = first_next (Some Cut) _ (not-cut _ c.if-by-ne253.false)

past-2 : (c : Else-bad_preamble) → past 2 (goal.at.Else-bad_preamble c).Start
unfolding early_outcomes
past-2 c = row_passed (Some BadPreamble) _ (past-1 (goal.at.Else-bad_preamble c).Else-by-ne253) c.bad_preamble.ensures c.if-bad_preamble.false

past-3 : (c : Else-undersized) → past 3 (goal.at.Else-undersized c).Start
unfolding early_outcomes
past-3 c = row_passed (Some Undersized) _ (past-2 (goal.at.Else-undersized c).Else-bad_preamble) (small (goal.at.Else-undersized c).After-undersized) c.if-undersized.false

pub returns-then-by-ne253 : goal.returns-then-by-ne253
unfolding early_outcomes
returns-then-by-ne253 c = sym (first-here (Some Cut) _ (cut_by _ c.if-by-ne253.true))

pub returns-then-bad_preamble : goal.returns-then-bad_preamble
unfolding early_outcomes
returns-then-bad_preamble c = row_holds_lem (Some BadPreamble) _ (past-1 (goal.at.returns-then-bad_preamble c).Else-by-ne253) c.bad_preamble.ensures c.if-bad_preamble.true

pub returns-then-undersized : goal.returns-then-undersized
unfolding early_outcomes
returns-then-undersized c = row_holds_lem (Some Undersized) _ (past-2 (goal.at.returns-then-undersized c).Else-bad_preamble) (small (goal.at.returns-then-undersized c).After-undersized) c.if-undersized.true

pub returns : goal.returns
unfolding early_outcomes
returns c = sym (past-3 c ∙ first-other None)
