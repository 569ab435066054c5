-- `table::holds_at` meets its contract: a job's octet is one more than its number. Assumes nothing.
use native.Mathlib.Omega.{arith}
use mathlib.Core.Path.{sym}
use Rattle.table.proofs.Entries.{holds-none, holds-octet}
use Rattle.table.proofs.holds_at.Goals as goal

pub returns-then-job-gt1 : goal.returns-then-job-gt1
returns-then-job-gt1 c = sym (holds-none _ _ _ c.if-job-gt1.true)

pub returns : goal.returns
returns c = sym (holds-octet _ _ _ (omega arith))
