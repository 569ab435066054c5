-- `receive::walk_on` meets its contract. The invariant: what is left of the walk here is the whole walk. The measure is what is left of the capture.
-- Assumes nothing.
use Rattle.std.proofs.Common.{◌≡◌, ◌-◌, ◌≤◌, length}
use Rattle.receive.proofs.Sights.{at-state}
use Rattle.receive.proofs.Walks.{left}
use Rattle.receive.specs.Walk.{walked}
use Rattle.table.specs.Entries.{entries_of, own_entries}
use Rattle.receive.proofs.walk_on.Given as goal

abbrev pub invariant-loop-start : goal.invariant-loop-start
invariant-loop-start l =
    (left l.s (own_entries l.job l.table) l.octets l.marks l.n (at-state l.state.deficit l.counters l.timers) l.at
    ≡ walked l.s l.job (entries_of l.table) (at-state l.state.deficit l.initial.counters l.initial.timers) l.octets l.marks)
    × (l.at ≤ length l.octets)
    × (l.n ≤ l.at)

abbrev pub decreases-loop-start : goal.decreases-loop-start
decreases-loop-start l = length l.octets - l.at
