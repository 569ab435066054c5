-- `sparse::reduce` meets its contract: i octets are taken off.
-- Assumes nothing.
use Rattle.sparse.specs.Octets.{Cut}
use Rattle.sparse.proofs.Octets.{Bytes}
use Rattle.sparse.proofs.reduce.Given as goal

abbrev pub invariant-loop-i : goal.invariant-loop-i
invariant-loop-i l = record { window : Bytes l.w; cut : Cut l.i l.at l.s l.initial.w l.w }
