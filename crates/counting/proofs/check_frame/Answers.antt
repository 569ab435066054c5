-- `counting::check_frame` meets its contract: each way out passes the rows that did not hold and stops at the one that did. Assumes nothing.
use Rattle.std.specs.Prelude.{Ok}
use Prim.Native.Nat.{ℕ}
use mathlib.Core.Path.{◌≡◌, refl, sym, ◌∙◌}
use Rattle.line.specs.Table.{first}
use Rattle.line.proofs.Tables.{first-other}
use Rattle.station.specs.declared.Refusal.TheVariants.{BadSettings, BadBuffers, BadPlace, HighDeficit, WrongTotals, HighTotal}
use Rattle.send.proofs.Refusals.{after, row_holds_lem, row_passed}
use Rattle.totals.proofs.Tests.{same_length}
use Rattle.counting.specs.Counting.{frame_totals}
use Rattle.counting.proofs.check_frame.Goals as goal
use Rattle.counting.proofs.check_frame.Goals.{Else-bad_buffers, Else-bad_settings, Else-bad_start, Else-high_deficit, Else-high_total, Else-wrong_totals, Start}

abbrev past : ℕ → Start → Type 0
past n c = first ((let a = c.args in frame_totals a.s a.port a.deficit a.octets.now a.marks.now a.place a.totals.now)) ≡ first (after n ((let a = c.args in frame_totals a.s a.port a.deficit a.octets.now a.marks.now a.place a.totals.now)))

past-1 : (c : Else-bad_settings) → past 1 (goal.at.Else-bad_settings c).Start
unfolding frame_totals
past-1 c = row_passed BadSettings _ refl c.bad_settings.ensures c.if-bad_settings.false

past-2 : (c : Else-bad_buffers) → past 2 (goal.at.Else-bad_buffers c).Start
unfolding frame_totals
past-2 c = row_passed BadBuffers _ (past-1 (goal.at.Else-bad_buffers c).Else-bad_settings) c.bad_buffers.ensures c.if-bad_buffers.false

past-3 : (c : Else-bad_start) → past 3 (goal.at.Else-bad_start c).Start
unfolding frame_totals
past-3 c = row_passed BadPlace _ (past-2 (goal.at.Else-bad_start c).Else-bad_buffers) c.bad_start.ensures c.if-bad_start.false

past-4 : (c : Else-high_deficit) → past 4 (goal.at.Else-high_deficit c).Start
unfolding frame_totals
past-4 c = row_passed HighDeficit _ (past-3 (goal.at.Else-high_deficit c).Else-bad_start) c.high_deficit.ensures c.if-high_deficit.false

past-5 : (c : Else-wrong_totals) → past 5 (goal.at.Else-wrong_totals c).Start
unfolding frame_totals
past-5 c = row_passed WrongTotals _ (past-4 (goal.at.Else-wrong_totals c).Else-high_deficit) c.wrong_totals.ensures c.if-wrong_totals.false

past-6 : (c : Else-high_total) → past 6 (goal.at.Else-high_total c).Start
unfolding frame_totals
past-6 c = row_passed HighTotal _ (past-5 (goal.at.Else-high_total c).Else-wrong_totals) c.high_total.ensures c.if-high_total.false

pub returns-then-bad_settings : goal.returns-then-bad_settings
unfolding frame_totals
returns-then-bad_settings c = row_holds_lem BadSettings _ refl c.bad_settings.ensures c.if-bad_settings.true

pub returns-then-bad_buffers : goal.returns-then-bad_buffers
unfolding frame_totals
returns-then-bad_buffers c = row_holds_lem BadBuffers _ (past-1 (goal.at.returns-then-bad_buffers c).Else-bad_settings) c.bad_buffers.ensures c.if-bad_buffers.true

pub returns-then-bad_start : goal.returns-then-bad_start
unfolding frame_totals
returns-then-bad_start c = row_holds_lem BadPlace _ (past-2 (goal.at.returns-then-bad_start c).Else-bad_buffers) c.bad_start.ensures c.if-bad_start.true

pub returns-then-high_deficit : goal.returns-then-high_deficit
unfolding frame_totals
returns-then-high_deficit c = row_holds_lem HighDeficit _ (past-3 (goal.at.returns-then-high_deficit c).Else-bad_start) c.high_deficit.ensures c.if-high_deficit.true

pub wrong_totals-requires : goal.wrong_totals-requires
wrong_totals-requires c =
    (same_length _ _ (sym c.bad_buffers.ensures ∙ c.if-bad_buffers.false)).1

pub returns-then-wrong_totals : goal.returns-then-wrong_totals
unfolding frame_totals
returns-then-wrong_totals c = row_holds_lem WrongTotals _ (past-4 (goal.at.returns-then-wrong_totals c).Else-high_deficit) c.wrong_totals.ensures c.if-wrong_totals.true

pub returns-then-high_total : goal.returns-then-high_total
unfolding frame_totals
returns-then-high_total c = row_holds_lem HighTotal _ (past-5 (goal.at.returns-then-high_total c).Else-wrong_totals) c.high_total.ensures c.if-high_total.true

pub returns : goal.returns
unfolding frame_totals
returns c = sym (past-6 c ∙ first-other (Ok tt))
