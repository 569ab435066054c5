-- `table::check_remove` meets its contract: each way out passes the rows that did not hold and stops at the one that did. Assumes nothing.
use Rattle.std.specs.Prelude.{ℕ, Err, Ok, Option}
use mathlib.Core.Path.{◌≡◌, sym, ap, ◌∙◌}
use mathlib.Core.Bool.{false, not}
use Rattle.line.proofs.Tables.{first-here, first_next, first-other}
use Rattle.station.specs.declared.Refusal.TheVariants.{BadJob, NotListed, BadTable}
use Rattle.table.specs.Entries.{entries_of, is_found}
use Rattle.table.specs.Tests.{bad_job, bad_table}
use Rattle.table.specs.Calls.{remove_refusals}
use Rattle.table.proofs.Entries.{found_none}
use Rattle.table.proofs.check_remove.Goals as goal
use Rattle.table.proofs.check_remove.Goals.{Else-bad_job, Else-bad_table}

-- the rows that did not hold
row-14 : (c : Else-bad_job) → bad_job c.args.job ≡ false
row-14 c = sym c.bad_job.ensures ∙ c.if-bad_job.false

row-20 : (c : Else-bad_table) → bad_table (entries_of c.args.t.now) ≡ false
row-20 c = sym c.bad_table.ensures ∙ c.if-bad_table.false

pub returns-then-bad_job : goal.returns-then-bad_job
unfolding remove_refusals
returns-then-bad_job c = λ found. sym (first-here (Err BadJob) _ (sym c.bad_job.ensures ∙ c.if-bad_job.true))

pub returns-then-bad_table : goal.returns-then-bad_table
unfolding remove_refusals
returns-then-bad_table c =
    λ found. sym (first_next (Err BadJob) _ (row-14 (goal.at.returns-then-bad_table c).Else-bad_job)
    ∙ first-here (Err BadTable) _ (sym c.bad_table.ensures ∙ c.if-bad_table.true))

pub returns-then-is_none : goal.returns-then-is_none
unfolding remove_refusals
returns-then-is_none c =
    λ found. sym (first_next (Err BadJob) _ (row-14 (goal.at.returns-then-is_none c).Else-bad_job)
    ∙ first_next (Err BadTable) _ (row-20 (goal.at.returns-then-is_none c).Else-bad_table)
    ∙ first-here (Err NotListed) _ (sym (ap (λ (o : Option ℕ). not (is_found o)) found) ∙ found_none _ _ c.is_none.ensures ∙ c.if-is_none.true))

pub returns : goal.returns
unfolding remove_refusals
returns c =
    λ found. sym (first_next (Err BadJob) _ (row-14 (goal.at.returns c).Else-bad_job)
    ∙ first_next (Err BadTable) _ (row-20 (goal.at.returns c).Else-bad_table)
    ∙ first_next (Err NotListed) _ (sym (ap (λ (o : Option ℕ). not (is_found o)) found) ∙ found_none _ _ c.is_none.ensures ∙ c.if-is_none.false)
    ∙ first-other (Ok tt))
