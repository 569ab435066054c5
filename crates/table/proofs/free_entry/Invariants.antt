-- `table::free_entry` meets its contract: what is left of the table decides. Assumes nothing.
use mathlib.Core.Path.{◌≡◌}
use lib.ListN.{drop}
use Rattle.table.specs.Entries.{entries_of, unused, first_entry, free_entry}
use Rattle.table.proofs.free_entry.Given as goal

abbrev pub invariant-loop-k : goal.invariant-loop-k
invariant-loop-k l = first_entry unused l.k (drop l.k (entries_of l.t)) ≡ free_entry (entries_of l.t)
