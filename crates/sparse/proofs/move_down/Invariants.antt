-- `sparse::move_down` meets its contract: i octets are moved.
-- Assumes nothing.
use Rattle.sparse.specs.Octets.{Moved}
use Rattle.sparse.proofs.move_down.Given as goal

abbrev pub invariant-loop-i : goal.invariant-loop-i
invariant-loop-i l = Moved l.i l.initial.w l.w
