-- `totals::check_before` meets its contract: each way out passes the rows that did not hold and stops at the one that did. Assumes nothing.
use Rattle.std.specs.Prelude.{Err, Ok}
use mathlib.Core.Path.{sym, ◌∙◌}
use Rattle.line.proofs.Tables.{first-here, first_next, first-other}
use Rattle.station.specs.declared.Refusal.TheVariants.{BadBuffers, BadPlace, WrongTotals, HighTotal}
use Rattle.totals.specs.Totals.{before_refusals}
use Rattle.totals.proofs.Tests.{same_length}
use Rattle.totals.proofs.check_before.Goals as goal

pub returns-then-bad_buffers : goal.returns-then-bad_buffers
unfolding before_refusals
returns-then-bad_buffers c = sym (first-here (Err BadBuffers) _ (sym c.bad_buffers.ensures ∙ c.if-bad_buffers.true))

pub returns-then-bad_place : goal.returns-then-bad_place
unfolding before_refusals
returns-then-bad_place c =
    sym (first_next (Err BadBuffers) _ (sym c.bad_buffers.ensures ∙ c.if-bad_buffers.false)
    ∙ first-here (Err BadPlace) _ (sym c.bad_place.ensures ∙ c.if-bad_place.true))

pub wrong_totals-requires : goal.wrong_totals-requires
wrong_totals-requires c = (same_length _ _ (sym c.bad_buffers.ensures ∙ c.if-bad_buffers.false)).1

pub returns-then-wrong_totals : goal.returns-then-wrong_totals
unfolding before_refusals
returns-then-wrong_totals c =
    sym (first_next (Err BadBuffers) _ (sym c.bad_buffers.ensures ∙ c.if-bad_buffers.false)
    ∙ first_next (Err BadPlace) _ (sym c.bad_place.ensures ∙ c.if-bad_place.false)
    ∙ first-here (Err WrongTotals) _ (sym c.wrong_totals.ensures ∙ c.if-wrong_totals.true))

pub returns-then-high_total : goal.returns-then-high_total
unfolding before_refusals
returns-then-high_total c =
    sym (first_next (Err BadBuffers) _ (sym c.bad_buffers.ensures ∙ c.if-bad_buffers.false)
    ∙ first_next (Err BadPlace) _ (sym c.bad_place.ensures ∙ c.if-bad_place.false)
    ∙ first_next (Err WrongTotals) _ (sym c.wrong_totals.ensures ∙ c.if-wrong_totals.false)
    ∙ first-here (Err HighTotal) _ (sym c.high_total.ensures ∙ c.if-high_total.true))

pub returns : goal.returns
unfolding before_refusals
returns c =
    sym (first_next (Err BadBuffers) _ (sym c.bad_buffers.ensures ∙ c.if-bad_buffers.false)
    ∙ first_next (Err BadPlace) _ (sym c.bad_place.ensures ∙ c.if-bad_place.false)
    ∙ first_next (Err WrongTotals) _ (sym c.wrong_totals.ensures ∙ c.if-wrong_totals.false)
    ∙ first_next (Err HighTotal) _ (sym c.high_total.ensures ∙ c.if-high_total.false)
    ∙ first-other (Ok tt))
