-- `line::pass_other` meets its contract. The invariant: no symbol passed is a Start. Assumes nothing.
use Prim.Native.Nat.{◌-◌}
use Rattle.line.specs.Passed.{Passed, NoStart}
use Rattle.line.proofs.pass_other.Given as goal

abbrev pub invariant-loop-i : goal.invariant-loop-i
invariant-loop-i l = Passed (NoStart l.octets l.marks) l.place l.i l.end

abbrev pub decreases-loop-i : goal.decreases-loop-i
decreases-loop-i l = l.end - l.i
