-- `table::bad_job` meets its contract. Assumes nothing.
use mathlib.Core.Path.{refl}
use Rattle.table.specs.Tests.{bad_job}
use Rattle.table.proofs.bad_job.Goals as goal

pub returns : goal.returns
unfolding bad_job
returns c = refl
