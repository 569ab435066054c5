-- `fcs::turn12` meets its contract: four octets as one number, and eight more as another.
-- Assumes nothing.
use mathlib.Core.Path.{◌≡◌, ap, ap₂, ◌∙◌}
use Prim.Native.Nat.{ℕ, ◌+◌}
use native.Mathlib.Omega.{arith}
use lib.Bits.{bit_xor, xor_lt}
use lib.ListN.{drop}
use Rattle.crc.specs.Crc.{crc_over}
use Rattle.crc.specs.Words.{crc_zeros}
use Rattle.crc.proofs.Linear.{turn_two}
use Rattle.fcs.proofs.turn12.Goals as goal

pub after12-requires : goal.after12-requires
after12-requires g c = xor_lt 32 c.from.result c.load4.result (omega arith) (omega arith)

pub returns : goal.returns
returns g c =
    let args = c.args in
    let s = args.s.now in
    let low = c.after12.ensures ∙ ap (crc_zeros 12) (ap₂ bit_xor c.from.ensures c.load4.ensures.0) in
    let high = c.after8-high.ensures ∙ ap (crc_zeros 8) c.load8.ensures in
    let e : args.at + 12 ≡ args.at + 4 + 8 = omega arith in
    ap₂ crc_over (ap₂ bit_xor low high) (ap (λ (n : ℕ). drop n s) e) ∙ turn_two 3 7 s args.at args.reg (λ k. omega (arith, c.type_inv.s k)) (omega arith)
