-- `show_steps` meets its contract: with the lines of the symbols left, the output is whole. Assumes nothing.
use Prim.Native.Nat.{◌*◌, ◌≤◌}
use Rattle.table.specs.Entries.{entries_of}
use Rattle.plain.specs.Fed.{plain_readings}
use Rattle.printing.specs.Lines.{lines_of, printed}
use Rattle.printing.proofs.Shows.{Left}
use Rattle.plain_lines.proofs.Laws.{symbols_from}
use Rattle.plain_lines.proofs.show_steps.Given as goal

abbrev pub invariant-loop-k : goal.invariant-loop-k
invariant-loop-k l =
    (l.at ≤ 84 * l.k)
    × (l.n ≤ l.k)
    × Left l.from l.initial.out (printed l.input) l.out l.at (lines_of l.n (plain_readings l.s 0 (entries_of l.none) l.p (symbols_from (2 * l.k) l.input)))
