-- `table::put_entry` meets its contract: eight stores are the entry in its place. Assumes nothing.
use borrow.Author.Rules.{rules}
use Rattle.table.proofs.Written.{stored_entry}
use Rattle.table.proofs.put_entry.Goals as goal

pub returns : goal.returns
returns c =
    let a = c.args in
    rw c.from.ensures (stored_entry a.t.now a.k a.e (search rules))
