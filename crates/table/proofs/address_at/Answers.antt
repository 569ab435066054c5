-- `table::address_at` meets its contract. Assumes nothing.
use Rattle.table.specs.Entries.{address_at}
use borrow.Author.Rules.{rules}
use Rattle.table.proofs.address_at.Goals as goal

pub returns : goal.returns
unfolding address_at
returns c = search rules
