-- `log::compact_front` meets its contract. What is kept already and what is still to be kept stay the same together: `kept_turn`. Assumes nothing.
use Prim.Native.Nat.{◌≤◌}
use mathlib.Core.Path.{◌≡◌}
use Rattle.reading_log.specs.Log.{slots, used_ones, joined}
use Rattle.reading_log.proofs.Kept.{kept_from}
use Rattle.reading_log.proofs.compact_front.Given as goal

abbrev pub invariant-loop-k : goal.invariant-loop-k
invariant-loop-k l =
    (l.j ≤ l.k) × (kept_from l.log l.records l.k l.j ≡ joined (used_ones (slots l.initial.log)))
