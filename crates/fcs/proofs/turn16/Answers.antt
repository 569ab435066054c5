-- `fcs::turn16` meets its contract: eight octets as one number and eight more as another.
-- Assumes nothing.
use mathlib.Core.Path.{◌≡◌, ap, ap₂, ◌∙◌}
use Prim.Native.Nat.{ℕ, ◌+◌}
use native.Mathlib.Omega.{arith}
use lib.Bits.{bit_xor}
use lib.ListN.{drop}
use Rattle.crc.specs.Crc.{crc_over}
use Rattle.crc.specs.Words.{crc_zeros}
use Rattle.crc.proofs.Linear.{turn_two}
use Rattle.fcs.proofs.turn16.Goals as goal

pub returns : goal.returns
returns g c =
    let args = c.args in
    let s = args.s.now in
    let low = c.after16.ensures ∙ ap (crc_zeros 16) (ap₂ bit_xor c.from.ensures c.load8-2.ensures) in
    let high = c.after8-high.ensures ∙ ap (crc_zeros 8) c.load8.ensures in
    let e : args.at + 16 ≡ args.at + 8 + 8 = omega arith in
    ap₂ crc_over (ap₂ bit_xor low high) (ap (λ (n : ℕ). drop n s) e) ∙ turn_two 7 7 s args.at args.reg (λ k. omega (arith, c.type_inv.s k)) (omega arith)
