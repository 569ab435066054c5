-- `fcs::next_entry` meets its contract: the first row by its bits, and each other by the row before it.
-- Assumes nothing.
use mathlib.Core.Path.{ap, ◌∙◌}
use Prim.Native.Nat.{ℕ, ◌-◌, ◌/◌, ◌%◌}
use native.Mathlib.Omega.{arith}
use lib.Bits.{bit_xor}
use lib.ListN.{get_or}
use Rattle.fcs.proofs.Lent.{entry_first, entry_next}
use Rattle.fcs.proofs.next_entry.Goals as goal

pub returns-then-i-lt256 : goal.returns-then-i-lt256
returns-then-i-lt256 c = c.first_row.ensures ∙ entry_first c.args.i (omega arith)

pub returns-else-i-lt256 : goal.returns-else-i-lt256
returns-else-i-lt256 c =
    let start = c in
    let i = start.args.i in
    let x = get_or start.args.t.now (i - 256) 0 in
    ap (λ (y : ℕ). bit_xor y (x / 256)) (start.requires.1 (x % 256) (omega arith))
    ∙ entry_next i x (omega arith) (start.requires.1 (i - 256) (omega arith))
