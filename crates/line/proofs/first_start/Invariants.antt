-- `line::first_start` meets its contract. The invariant: no symbol passed is a Start. Assumes nothing.
use Rattle.line.specs.Passed.{Passed, NoStart}
use Rattle.line.proofs.first_start.Given as goal

abbrev pub invariant-loop-i : goal.invariant-loop-i
invariant-loop-i l = Passed (NoStart l.octets l.marks) l.place l.i l.end
