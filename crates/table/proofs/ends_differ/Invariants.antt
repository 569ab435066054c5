-- `table::ends_differ` meets its contract: from the last entry on, each is none of those behind it. Assumes nothing.
use mathlib.Core.Path.{◌≡◌}
use mathlib.Core.Bool.{false}
use lib.ListN.{drop}
use Rattle.table.specs.Entries.{own_entries}
use Rattle.table.specs.Tests.{twice}
use Rattle.table.specs.Steps.{Marked}
use Rattle.table.proofs.ends_differ.Given as goal

abbrev pub invariant-loop-k : goal.invariant-loop-k
invariant-loop-k l = (twice (drop l.k (own_entries l.job l.t)) ≡ false) × Marked (drop l.k (own_entries l.job l.t)) l.seen
