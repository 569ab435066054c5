-- `fcs::Rows::entry` meets its contract, which says what the tables do at one entry.
-- Assumes nothing.
use mathlib.Core.Path.{◌∙◌}
use Prim.Native.Nat.{◌+◌, ◌*◌, ◌%◌}
use native.Mathlib.Omega.{arith}
use Rattle.fcs.proofs.Lent.{entries-filled, tables_length, entry_at}
use Rattle.fcs.proofs.Rows.entry.Goals as goal

pub bounds-self-k : goal.bounds-self-k
bounds-self-k c = omega (arith, tables_length c.args.self.now.made)

pub returns : goal.returns
returns c =
    let a = c.args in
    rw a.self.now.made (entries-filled 4096 (a.k * 256 + a.x % 256) (omega arith) ∙ entry_at a.k a.x)
