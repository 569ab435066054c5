-- `table::is_blank` meets its contract: while it is said to be blank, the octets passed are 0. Assumes nothing.
use Prim.Native.Nat.{ℕ, ◌<◌}
use mathlib.Core.Path.{◌≡◌}
use mathlib.Core.Bool.{true}
use lib.ListN.{get_or}
use Rattle.table.proofs.is_blank.Given as goal

abbrev pub invariant-loop-x : goal.invariant-loop-x
invariant-loop-x l = l.blank ≡ true → (i : ℕ) → i < l.x-index → get_or l.t i 0 ≡ 0
