-- `table::entry_of` meets its contract: one of the 16, or a free one. Assumes nothing.
use native.Mathlib.Omega.{arith}
use mathlib.Core.Path.{sym}
use lib.ListN.{get_or-eq_default}
use Rattle.table.specs.Entries.{entry_at, entries_of}
use Rattle.table.specs.Calls.{freed}
use Rattle.table.proofs.Entries.{entries_sixteen, entry_is}
use Rattle.table.proofs.entry_of.Goals as goal

pub returns-then-k-ge-TABLE_ENTRIES : goal.returns-then-k-ge-TABLE_ENTRIES
unfolding freed
returns-then-k-ge-TABLE_ENTRIES c = let t = c.args.t.now in sym (get_or-eq_default (entries_of t) freed {n = c.args.k} (omega (arith, entries_sixteen t)))

pub returns : goal.returns
unfolding entry_at
returns c =
    let a = c.args in
    rw (c.from-holder.ensures, c.address_at-address.ensures) (sym (entry_is a.t.now a.k freed (omega arith)))
