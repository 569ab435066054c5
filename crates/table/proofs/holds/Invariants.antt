-- `table::holds` meets its contract: what was counted, and what is left of the table. Assumes nothing.
use Prim.Native.Nat.{◌+◌, ◌≤◌}
use mathlib.Core.Path.{◌≡◌}
use lib.ListN.{drop}
use Rattle.table.specs.Entries.{own_entries, held}
use Rattle.table.proofs.holds.Given as goal

abbrev pub invariant-loop-k : goal.invariant-loop-k
invariant-loop-k l = (l.n ≤ l.k) × (l.n + held (drop l.k (own_entries l.job l.t)) ≡ held (own_entries l.job l.t))
