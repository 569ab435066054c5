-- `fcs::make_tables` meets its contract: every entry of the rows before `row` is right, and at the end all are.
-- Assumes nothing.
use Prim.Native.Nat.{◌*◌}
use Rattle.fcs.specs.Lent.{Filled}
use Rattle.fcs.proofs.make_tables.Given as goal

abbrev pub invariant-loop-row : goal.invariant-loop-row
invariant-loop-row l = Filled (l.row * 256) l.t
