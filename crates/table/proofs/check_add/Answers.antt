-- `table::check_add` meets its contract: each way out passes the rows that did not hold and stops at the one that did. Assumes nothing.
use Rattle.std.specs.Prelude.{ℕ, Err, Ok, Option}
use mathlib.Core.Path.{◌≡◌, sym, ap, ◌∙◌}
use mathlib.Core.Bool.{false, not}
use lib.Dec.{leb}
use borrow.Author.Tests.{le-leb, lt-leb}
use Rattle.line.specs.Limits.{most_held}
use Rattle.line.proofs.Tables.{first-here, first_next, first-other}
use Rattle.station.specs.declared.Refusal.TheVariants.{BadJob, HoldsTwelve, AllInUse, AlreadyListed, BadTable}
use Rattle.table.specs.Entries.{entries_of, mine, held, is_found}
use Rattle.table.specs.Tests.{bad_job, bad_table}
use Rattle.table.specs.Calls.{is_listed, add_refusals}
use Rattle.table.proofs.Entries.{found_some, found_none, found_among}
use Rattle.table.proofs.check_add.Goals as goal
use Rattle.table.proofs.check_add.Goals.{After-is_some, Else-bad_job, Else-bad_table, Else-holds-ge-MOST_HELD, Else-is_some}

-- the rows that did not hold
row-14 : (c : Else-bad_job) → bad_job c.args.job ≡ false
row-14 c = sym c.bad_job.ensures ∙ c.if-bad_job.false

row-20 : (c : Else-bad_table) → bad_table (entries_of c.args.t.now) ≡ false
row-20 c = sym c.bad_table.ensures ∙ c.if-bad_table.false

listed : (c : After-is_some) → c.is_some.result ≡ is_listed c.args.a (mine c.args.job (entries_of c.args.t.now))
unfolding is_listed
listed c = c.is_some.ensures ∙ found_some c.find_address.result ∙ ap is_found c.find_address.ensures.0 ∙ found_among _ 0 _

row-17 : (c : Else-is_some) → is_listed c.args.a (mine c.args.job (entries_of c.args.t.now)) ≡ false
row-17 c = sym (listed c.before) ∙ c.if-is_some.false

row-15 : (c : Else-holds-ge-MOST_HELD) → leb most_held (held (mine c.args.job (entries_of c.args.t.now))) ≡ false
row-15 c = ap (leb most_held) (sym c.holds.ensures) ∙ lt-leb _ _ c.if-holds-ge-MOST_HELD.false

pub returns-then-bad_job : goal.returns-then-bad_job
unfolding add_refusals
returns-then-bad_job c = λ free. sym (first-here (Err BadJob) _ (sym c.bad_job.ensures ∙ c.if-bad_job.true))

pub returns-then-bad_table : goal.returns-then-bad_table
unfolding add_refusals
returns-then-bad_table c =
    λ free. sym (first_next (Err BadJob) _ (row-14 (goal.at.returns-then-bad_table c).Else-bad_job)
    ∙ first-here (Err BadTable) _ (sym c.bad_table.ensures ∙ c.if-bad_table.true))

pub returns-then-is_some : goal.returns-then-is_some
unfolding add_refusals
returns-then-is_some c =
    λ free. sym (first_next (Err BadJob) _ (row-14 (goal.at.returns-then-is_some c).Else-bad_job)
    ∙ first_next (Err BadTable) _ (row-20 (goal.at.returns-then-is_some c).Else-bad_table)
    ∙ first-here (Err AlreadyListed) _ (sym (listed (goal.at.returns-then-is_some c).After-is_some) ∙ c.if-is_some.true))

pub returns-then-holds-ge-MOST_HELD : goal.returns-then-holds-ge-MOST_HELD
unfolding add_refusals
returns-then-holds-ge-MOST_HELD c =
    λ free. sym (first_next (Err BadJob) _ (row-14 (goal.at.returns-then-holds-ge-MOST_HELD c).Else-bad_job)
    ∙ first_next (Err BadTable) _ (row-20 (goal.at.returns-then-holds-ge-MOST_HELD c).Else-bad_table)
    ∙ first_next (Err AlreadyListed) _ (row-17 (goal.at.returns-then-holds-ge-MOST_HELD c).Else-is_some)
    ∙ first-here (Err HoldsTwelve) _ (ap (leb most_held) (sym c.holds.ensures) ∙ le-leb _ _ c.if-holds-ge-MOST_HELD.true))

pub returns-then-is_none : goal.returns-then-is_none
unfolding add_refusals
returns-then-is_none c =
    λ free. sym (first_next (Err BadJob) _ (row-14 (goal.at.returns-then-is_none c).Else-bad_job)
    ∙ first_next (Err BadTable) _ (row-20 (goal.at.returns-then-is_none c).Else-bad_table)
    ∙ first_next (Err AlreadyListed) _ (row-17 (goal.at.returns-then-is_none c).Else-is_some)
    ∙ first_next (Err HoldsTwelve) _ (row-15 (goal.at.returns-then-is_none c).Else-holds-ge-MOST_HELD)
    ∙ first-here (Err AllInUse) _ (sym (ap (λ (o : Option ℕ). not (is_found o)) free) ∙ found_none _ _ c.is_none.ensures ∙ c.if-is_none.true))

pub returns : goal.returns
unfolding add_refusals
returns c =
    λ free. sym (first_next (Err BadJob) _ (row-14 (goal.at.returns c).Else-bad_job)
    ∙ first_next (Err BadTable) _ (row-20 (goal.at.returns c).Else-bad_table)
    ∙ first_next (Err AlreadyListed) _ (row-17 (goal.at.returns c).Else-is_some)
    ∙ first_next (Err HoldsTwelve) _ (row-15 (goal.at.returns c).Else-holds-ge-MOST_HELD)
    ∙ first_next (Err AllInUse) _ (sym (ap (λ (o : Option ℕ). not (is_found o)) free) ∙ found_none _ _ c.is_none.ensures ∙ c.if-is_none.false)
    ∙ first-other (Ok tt))
