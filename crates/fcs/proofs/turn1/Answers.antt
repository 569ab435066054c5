-- `fcs::turn1` meets its contract: one octet as a number, with seven octets that are 0 before it, and the rest of the register.
-- Assumes nothing.
use mathlib.Core.Path.{ap, ap₂, ◌∙◌}
use Prim.Native.Nat.{ℕ, ◌+◌, ◌*◌, ◌/◌, ◌%◌}
use native.Mathlib.Omega.{arith}
use lib.Bits.{bit_xor}
use lib.ListN.{get_or, drop}
use Rattle.crc.specs.Crc.{crc_over}
use Rattle.crc.specs.Words.{crc_zeros}
use Rattle.crc.proofs.Linear.{turn_one, zeros_shifted}
use Rattle.fcs.proofs.turn1.Goals as goal

pub returns : goal.returns
returns c =
    let args = c.args in
    let s = args.s.now in
    let x = bit_xor args.reg (get_or s args.at 0) in
    let same = ap (bit_xor args.reg) c.from.ensures in
    let low = c.from-2.ensures ∙ ap (λ (y : ℕ). y % 256) same in
    let one = c.after8.ensures ∙ ap (λ (y : ℕ). crc_zeros 8 (y * 0x100_0000_0000_0000)) low ∙ zeros_shifted 7 1 (x % 256) in
    ap₂ (λ (a b : ℕ). crc_over (bit_xor a b) (drop (args.at + 1) s)) one (ap (λ (y : ℕ). y / 256) same) ∙ turn_one s args.at args.reg (omega arith)
