-- `receive::check_read` meets its contract: each way out passes the rows that did not hold and stops at the one that did. Assumes nothing.
use Rattle.std.specs.Prelude.{Err, Ok}
use Rattle.std.proofs.Common.{◌≡◌, ℕ, sym, refl, ◌∙◌}
use Rattle.line.specs.Table.{first}
use Rattle.line.proofs.Tables.{first-other}
use Rattle.station.specs.declared.Refusal.TheVariants.{BadSettings, BadBuffers, BadPlace, BadJob, BadTable}
use Rattle.table.specs.Entries.{entries_of}
use Rattle.outcome.proofs.Rules.{after, row_holds_lem, row_passed}
use Rattle.receive.specs.Reading.{read_refusals}
use Rattle.receive.proofs.check_read.Goals as goal
use Rattle.receive.proofs.check_read.Goals.{Else-bad_buffers, Else-bad_job, Else-bad_place, Else-bad_settings, Else-bad_table, Start}

abbrev past : ℕ → Start → Type 0
past n c = first ((let a = c.args in read_refusals a.s a.job (entries_of a.table.now) a.octets.now a.marks.now a.place)) ≡ first (after n ((let a = c.args in read_refusals a.s a.job (entries_of a.table.now) a.octets.now a.marks.now a.place)))

past-1 : (c : Else-bad_settings) → past 1 (goal.at.Else-bad_settings c).Start
unfolding read_refusals
past-1 c = row_passed (Err BadSettings) _ refl c.bad_settings.ensures c.if-bad_settings.false

past-2 : (c : Else-bad_job) → past 2 (goal.at.Else-bad_job c).Start
unfolding read_refusals
past-2 c = row_passed (Err BadJob) _ (past-1 (goal.at.Else-bad_job c).Else-bad_settings) c.bad_job.ensures c.if-bad_job.false

past-3 : (c : Else-bad_buffers) → past 3 (goal.at.Else-bad_buffers c).Start
unfolding read_refusals
past-3 c = row_passed (Err BadBuffers) _ (past-2 (goal.at.Else-bad_buffers c).Else-bad_job) c.bad_buffers.ensures c.if-bad_buffers.false

past-4 : (c : Else-bad_place) → past 4 (goal.at.Else-bad_place c).Start
unfolding read_refusals
past-4 c = row_passed (Err BadPlace) _ (past-3 (goal.at.Else-bad_place c).Else-bad_buffers) c.bad_place.ensures c.if-bad_place.false

past-5 : (c : Else-bad_table) → past 5 (goal.at.Else-bad_table c).Start
unfolding read_refusals
past-5 c = row_passed (Err BadTable) _ (past-4 (goal.at.Else-bad_table c).Else-bad_place) c.bad_table.ensures c.if-bad_table.false

pub returns-then-bad_settings : goal.returns-then-bad_settings
unfolding read_refusals
returns-then-bad_settings c = row_holds_lem (Err BadSettings) _ refl c.bad_settings.ensures c.if-bad_settings.true

pub returns-then-bad_job : goal.returns-then-bad_job
unfolding read_refusals
returns-then-bad_job c = row_holds_lem (Err BadJob) _ (past-1 (goal.at.returns-then-bad_job c).Else-bad_settings) c.bad_job.ensures c.if-bad_job.true

pub returns-then-bad_buffers : goal.returns-then-bad_buffers
unfolding read_refusals
returns-then-bad_buffers c = row_holds_lem (Err BadBuffers) _ (past-2 (goal.at.returns-then-bad_buffers c).Else-bad_job) c.bad_buffers.ensures c.if-bad_buffers.true

pub returns-then-bad_place : goal.returns-then-bad_place
unfolding read_refusals
returns-then-bad_place c = row_holds_lem (Err BadPlace) _ (past-3 (goal.at.returns-then-bad_place c).Else-bad_buffers) c.bad_place.ensures c.if-bad_place.true

pub returns-then-bad_table : goal.returns-then-bad_table
unfolding read_refusals
returns-then-bad_table c = row_holds_lem (Err BadTable) _ (past-4 (goal.at.returns-then-bad_table c).Else-bad_place) c.bad_table.ensures c.if-bad_table.true

pub returns : goal.returns
unfolding read_refusals
returns c = sym (past-5 c ∙ first-other (Ok tt))
