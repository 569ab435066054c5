-- `log::used_records` meets its contract. What is counted and what is still to be counted stay the same together. Assumes nothing.
use Prim.Native.Nat.{ℕ, ◌+◌, ◌≤◌}
use mathlib.Core.Path.{◌≡◌}
use mathlib.Core.List.{List}
use lib.ListN.{length, drop}
use Rattle.reading_log.specs.Log.{slots, used_ones, used_count}
use Rattle.reading_log.proofs.used_records.Given as goal

-- how many are used from a record on
abbrev pub ahead : List ℕ → ℕ → ℕ
ahead l k = length (used_ones (drop k (slots l)))

abbrev pub invariant-loop-i : goal.invariant-loop-i
invariant-loop-i l = (l.used ≤ l.i) × (l.used + ahead l.log l.i ≡ used_count l.log)
