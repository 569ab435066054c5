-- `table::find_from` meets its contract: what is left of the table decides. Assumes nothing.
use mathlib.Core.Path.{◌≡◌}
use lib.ListN.{drop}
use Rattle.fields.specs.Fields.{destination}
use Rattle.table.specs.Entries.{own_entries, first_mine}
use Rattle.table.proofs.find_from.Given as goal

abbrev pub invariant-loop-k : goal.invariant-loop-k
invariant-loop-k l =
    first_mine (destination l.f) l.k (drop l.k (own_entries l.job l.t)) ≡ first_mine (destination l.f) l.from (drop l.from (own_entries l.job l.t))
