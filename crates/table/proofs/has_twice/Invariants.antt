-- `table::has_twice` meets its contract: what is left of the table decides. Assumes nothing.
use mathlib.Core.Path.{◌≡◌}
use lib.ListN.{drop}
use Rattle.table.specs.Entries.{own_entries}
use Rattle.table.specs.Tests.{twice}
use Rattle.table.proofs.has_twice.Given as goal

abbrev pub invariant-loop-k : goal.invariant-loop-k
invariant-loop-k l = twice (drop l.k (own_entries l.job l.t)) ≡ twice (own_entries l.job l.t)
