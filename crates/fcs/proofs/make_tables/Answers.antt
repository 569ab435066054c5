-- `fcs::make_tables` meets its contract: every entry of the rows before `row` is right, and at the end all are.
-- Assumes nothing.
use native.Mathlib.Omega.{arith}
use Rattle.fcs.proofs.Lent.{entries_only}
use Rattle.fcs.proofs.make_tables.Goals as goal

pub returns : goal.returns
returns c = entries_only 4096 c.loop-row.t (omega arith) (λ j h. c.loop-row.invariant j (omega arith))
