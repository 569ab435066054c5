-- `sparse::finish` meets its contract: i octets stand in front.
-- Assumes nothing.
use Rattle.sparse.specs.Octets.{Ended}
use Rattle.sparse.proofs.finish.Given as goal

abbrev pub invariant-loop-i : goal.invariant-loop-i
invariant-loop-i l = Ended l.i l.at l.n l.s l.initial.w l.w
