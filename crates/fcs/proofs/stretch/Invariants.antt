-- `fcs::stretch` meets its contract: every entry below `i + x` is right, and one more follows from the one n before it.
-- Assumes nothing.
use Prim.Native.Nat.{◌+◌}
use Rattle.fcs.specs.Lent.{Filled}
use Rattle.fcs.proofs.stretch.Given as goal

abbrev pub invariant-loop-x : goal.invariant-loop-x
invariant-loop-x l = Filled (l.i + l.x) l.t
