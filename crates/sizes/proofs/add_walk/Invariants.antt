-- `sizes::add_walk` meets its contract. The invariant: with what is left to add here, the table is whole. The measure is what is left of the capture.
-- Assumes nothing.
use Rattle.std.proofs.Common.{◌≡◌, ℕ, ◌-◌, ◌≤◌, List, length}
use Rattle.station.specs.Station.{fresh}
use Rattle.table.specs.Entries.{entries_of, own_entries}
use Rattle.receive.specs.Walk.{walk}
use Rattle.sizes.specs.declared.SizeTable.{SizeTable}
use Rattle.sizes.specs.Sizes.{with_frames, frame_lengths}
use Rattle.sizes.proofs.Laws.{add_left}
use Rattle.sizes.proofs.add_walk.Given as goal

-- a table of these counts
abbrev pub of : List ℕ → List ℕ → SizeTable
of frames lengths = record { frames = frames; octets = lengths }

abbrev pub invariant-loop-start : goal.invariant-loop-start
invariant-loop-start l =
    (add_left (of l.frames l.lengths) l.s (own_entries l.job l.table) l.octets l.marks l.at
    ≡ with_frames (of l.initial.frames l.initial.lengths) (frame_lengths (walk l.s l.job (entries_of l.table) fresh l.octets l.marks)))
    × (l.at ≤ length l.octets)

abbrev pub decreases-loop-start : goal.decreases-loop-start
decreases-loop-start l = length l.octets - l.at
