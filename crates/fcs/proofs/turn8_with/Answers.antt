-- `fcs::turn8_with` meets its contract: eight octets as one number, and what is carried to them with it.
-- Assumes nothing.
use mathlib.Core.Path.{sym, ap, ◌∙◌}
use Prim.Native.Nat.{ℕ, ◌+◌, ◌*◌, ◌^◌, ◌<◌}
use native.Mathlib.Omega.{arith}
use lib.Bits.{bit_xor, xor_comm, xor_lt}
use lib.ListN.{drop}
use Rattle.crc.specs.Crc.{crc_over}
use Rattle.crc.specs.Words.{crc_zeros}
use Rattle.sparse.proofs.Words.{next_word, xor_low}
use Rattle.fcs.proofs.turn8_with.Goals as goal

pub returns : goal.returns
returns c = λ h.
    let args = c.args in
    let s = args.s.now in
    let at = args.at in
    let m = args.c in
    let r = args.reg in
    let x = c.load8 in
    let lm : m < 2 ^ 64 = omega arith in
    let lr : r < 2 ^ 64 = omega arith in
    let lx : x.result < 2 ^ 64 = omega arith in
    let e = c.after8.ensures ∙ ap (λ (y : ℕ). crc_zeros 8 (bit_xor (bit_xor m y) x.result)) c.from.ensures in
    ap (λ (y : ℕ). crc_over (bit_xor y h) (drop (at + 8) s)) e
    ∙ next_word h (bit_xor m r) s at x.result (λ k. omega (arith, c.type_inv.s k)) (xor_lt 64 m r lm lr) lx (omega arith) x.ensures
    ∙ ap (λ (y : ℕ). crc_over y (drop at s)) (sym (xor_low h m r lm lr) ∙ xor_comm (h * 2 ^ 64 + m) r)
