-- `line::pass_words` meets its contract. The invariant: each octet passed is v. Assumes nothing.
use Prim.Native.Nat.{◌-◌}
use Rattle.line.specs.Passed.{Passed, Has}
use Rattle.line.proofs.pass_words.Given as goal

abbrev pub invariant-loop-i : goal.invariant-loop-i
invariant-loop-i l = Passed (Has l.s l.v) l.place l.i l.end

abbrev pub decreases-loop-i : goal.decreases-loop-i
decreases-loop-i l = l.end - l.i
