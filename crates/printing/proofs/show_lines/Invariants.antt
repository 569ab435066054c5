-- `show_lines` meets its contract: with the lines of the readings left, the output is whole. Assumes nothing.
use Prim.Native.Nat.{◌+◌, ◌-◌, ◌*◌, ◌≤◌}
use lib.ListN.{length}
use Rattle.table.specs.Entries.{entries_of}
use Rattle.receive.specs.Walk.{readings_from}
use Rattle.printing.specs.Lines.{lines_of, capture_lines}
use Rattle.printing.proofs.Shows.{Left}
use Rattle.printing.proofs.show_lines.Given as goal

abbrev pub invariant-loop-n : goal.invariant-loop-n
invariant-loop-n l =
    (l.at ≤ 84 * l.n)
    × Left l.from l.initial.out (capture_lines l.octets l.marks) l.out l.at
    (lines_of l.n (readings_from (length l.octets + 1 - l.n) l.s 0 (entries_of l.none) l.st l.octets l.marks l.place))
