-- `fcs::turn4` meets its contract: four octets as one number, with four octets that are 0 before it.
-- Assumes nothing.
use mathlib.Core.Path.{ap, ap₂, ◌∙◌}
use Prim.Native.Nat.{ℕ, ◌+◌, ◌*◌}
use native.Mathlib.Omega.{arith}
use lib.Bits.{bit_xor}
use lib.ListN.{drop}
use Rattle.crc.specs.Crc.{crc_over}
use Rattle.crc.specs.Words.{crc_zeros, word_at}
use Rattle.crc.proofs.Linear.{turn, zeros_shifted}
use Rattle.fcs.proofs.turn4.Goals as goal

pub returns : goal.returns
returns c =
    let args = c.args in
    let s = args.s.now in
    let x = ap₂ bit_xor c.from.ensures c.load4.ensures.0 in
    let four = c.after8.ensures ∙ ap (λ (y : ℕ). crc_zeros 8 (y * 0x1_0000_0000)) x ∙ zeros_shifted 4 4 (bit_xor args.reg (word_at 3 s args.at)) in
    ap (λ (r : ℕ). crc_over r (drop (args.at + 4) s)) four ∙ turn 3 s args.at args.reg (λ k. omega (arith, c.type_inv.s k)) (omega arith)
