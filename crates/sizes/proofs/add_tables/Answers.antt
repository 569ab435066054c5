-- `sizes::add_tables` meets its contract. Assumes nothing.
use Rattle.sizes.specs.Sizes.{add_tables}
use Rattle.sizes.proofs.add_tables.Goals as goal

pub returns : goal.returns
unfolding add_tables
returns c = cc
