-- `totals::check_fill` meets its contract: each way out passes the rows that did not hold and stops at the one that did. Assumes nothing.
use Rattle.std.specs.Prelude.{Err, Ok}
use mathlib.Core.Path.{sym, ◌∙◌}
use Rattle.line.proofs.Tables.{first-here, first_next, first-other}
use Rattle.station.specs.declared.Refusal.TheVariants.{BadBuffers, WrongTotals}
use Rattle.totals.specs.Totals.{fill_refusals}
use Rattle.totals.proofs.Tests.{same_length}
use Rattle.totals.proofs.check_fill.Goals as goal

pub returns-then-bad_buffers : goal.returns-then-bad_buffers
unfolding fill_refusals
returns-then-bad_buffers c = sym (first-here (Err BadBuffers) _ (sym c.bad_buffers.ensures ∙ c.if-bad_buffers.true))

pub wrong_totals-requires : goal.wrong_totals-requires
wrong_totals-requires c = (same_length _ _ (sym c.bad_buffers.ensures ∙ c.if-bad_buffers.false)).1

pub returns-then-wrong_totals : goal.returns-then-wrong_totals
unfolding fill_refusals
returns-then-wrong_totals c =
    sym (first_next (Err BadBuffers) _ (sym c.bad_buffers.ensures ∙ c.if-bad_buffers.false)
    ∙ first-here (Err WrongTotals) _ (sym c.wrong_totals.ensures ∙ c.if-wrong_totals.true))

pub returns : goal.returns
unfolding fill_refusals
returns c =
    sym (first_next (Err BadBuffers) _ (sym c.bad_buffers.ensures ∙ c.if-bad_buffers.false)
    ∙ first_next (Err WrongTotals) _ (sym c.wrong_totals.ensures ∙ c.if-wrong_totals.false)
    ∙ first-other (Ok tt))
