-- `fcs::turn8` meets its contract: eight octets as one number.
-- Assumes nothing.
use mathlib.Core.Path.{ap, ap₂, ◌∙◌}
use Prim.Native.Nat.{ℕ, ◌+◌}
use native.Mathlib.Omega.{arith}
use lib.Bits.{bit_xor}
use lib.ListN.{drop}
use Rattle.crc.specs.Crc.{crc_over}
use Rattle.crc.specs.Words.{crc_zeros}
use Rattle.crc.proofs.Linear.{turn}
use Rattle.fcs.proofs.turn8.Goals as goal

pub returns : goal.returns
returns c =
    let args = c.args in
    let s = args.s.now in
    let x = c.after8.ensures ∙ ap (crc_zeros 8) (ap₂ bit_xor c.from.ensures c.load8.ensures) in
    ap (λ (r : ℕ). crc_over r (drop (args.at + 8) s)) x ∙ turn 7 s args.at args.reg (λ k. omega (arith, c.type_inv.s k)) (omega arith)
