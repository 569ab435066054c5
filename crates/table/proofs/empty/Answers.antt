-- `table::empty` meets its contract. Assumes nothing.
use mathlib.Core.Path.{refl}
use Rattle.table.specs.Calls.{empty_table}
use Rattle.table.proofs.empty.Goals as goal

pub returns : goal.returns
unfolding empty_table
returns c = refl
