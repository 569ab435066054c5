-- `line::first_mark` meets its contract. The invariant: each mark passed is 0. Assumes nothing.
use Rattle.line.specs.Passed.{Passed, Has}
use Rattle.line.proofs.first_mark.Given as goal

abbrev pub invariant-loop-i : goal.invariant-loop-i
invariant-loop-i l = Passed (Has l.marks 0) l.place l.i l.end
