-- `logging::keep_on` meets its contract. The invariant: what is left of the walk here is the whole walk, and there are k records up to the last used one.
-- The measure is what is left of the capture. Assumes nothing.
use Prim.Native.Nat.{◌+◌, ◌-◌, ◌≤◌}
use mathlib.Core.Path.{◌≡◌}
use lib.ListN.{length}
use Rattle.table.specs.Entries.{entries_of}
use Rattle.reading_log.specs.Log.{extent}
use Rattle.receive.proofs.Sights.{at-state}
use Rattle.logging.specs.Walks.{keep_from, walk_logged}
use Rattle.logging.proofs.keep_on.Given as goal

abbrev pub invariant-loop-start : goal.invariant-loop-start
invariant-loop-start l =
    (keep_from (length l.octets + 1 - l.n) l.s l.job (entries_of l.table) (at-state l.state.deficit l.counters l.timers) l.octets l.marks l.at l.n l.log
    ≡ walk_logged l.s l.job (entries_of l.table) (at-state l.state.deficit l.initial.counters l.initial.timers) l.octets l.marks l.place l.initial.log)
    × (l.n ≤ l.at)
    × (l.at ≤ length l.octets)
    × (length l.log ≡ length l.initial.log)
    × (l.k ≡ extent l.log)

abbrev pub decreases-loop-start : goal.decreases-loop-start
decreases-loop-start l = length l.octets - l.at
