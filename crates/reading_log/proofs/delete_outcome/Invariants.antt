-- `log::delete_outcome` meets its contract. What was looked at and what is still to be looked at stay the same together: `left-deleted`, `left_other`.
-- Assumes nothing.
use Prim.Native.Nat.{◌+◌, ◌≤◌}
use mathlib.Core.Path.{◌≡◌}
use Rattle.reading_log.specs.Log.{slots, joined}
use Rattle.reading_log.specs.Room.{deleted_all, count_of}
use Rattle.reading_log.proofs.Kept.{left_from, count_from}
use Rattle.reading_log.proofs.delete_outcome.Given as goal

abbrev pub invariant-loop-i : goal.invariant-loop-i
invariant-loop-i l =
    (l.deleted ≤ l.i)
    × (left_from l.outcome l.log l.records l.i ≡ joined (deleted_all l.outcome (slots l.initial.log)))
    × (l.deleted + count_from l.outcome l.log l.records l.i ≡ count_of l.outcome (slots l.initial.log))
