-- `table::taken_by` meets its contract. Assumes nothing.
use borrow.Author.Tests.{eq-eqb, ne_eqb}
use Rattle.table.specs.Calls.{taken}
use Rattle.table.proofs.taken_by.Goals as goal

pub returns-then-job-eq0 : goal.returns-then-job-eq0
unfolding taken
returns-then-job-eq0 c = rw (eq-eqb _ _ c.if-job-eq0.true)

pub returns-else-job-eq0 : goal.returns-else-job-eq0
unfolding taken
returns-else-job-eq0 c = rw (ne_eqb _ _ c.if-job-eq0.false)
