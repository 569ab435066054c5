-- `show_whys` meets its contract: with the lines of the calls left, the output is whole. Assumes nothing.
use Prim.Native.Nat.{◌+◌, ◌-◌, ◌*◌, ◌≤◌}
use lib.ListN.{length}
use Rattle.table.specs.Entries.{entries_of}
use Rattle.printing.proofs.Shows.{Left}
use Rattle.why_lines.specs.Whys.{explained_from, whys_of, capture_whys}
use Rattle.why_lines.proofs.show_whys.Given as goal

abbrev pub invariant-loop-n : goal.invariant-loop-n
invariant-loop-n l =
    (l.at ≤ 96 * l.n)
    × Left l.from l.initial.out (capture_whys l.octets l.marks) l.out l.at
    (whys_of l.n (explained_from (length l.octets + 1 - l.n) l.s 0 (entries_of l.none) l.octets l.marks l.place))
