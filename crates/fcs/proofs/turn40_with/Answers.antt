-- `fcs::turn40_with` meets its contract: five words, each with what is carried to it.
-- Assumes nothing.
use mathlib.Core.Path.{◌≡◌, sym, ap, ◌∙◌}
use Prim.Native.Nat.{ℕ, ◌+◌, ◌*◌, ◌^◌}
use native.Mathlib.Nat.{zero-add}
use native.Mathlib.Omega.{arith}
use lib.Bits.{bit_xor, xor_zero_l, xor_zero_r}
use lib.ListN.{drop}
use Rattle.crc.specs.Crc.{crc_over}
use Rattle.sparse.specs.Words.{number, four}
use Rattle.fcs.proofs.turn40_with.Goals as goal

pub returns : goal.returns
returns c =
    let args = c.args in
    let w = args.w in
    let s = args.s.now in
    let at = args.at in
    let goes : (r n m : ℕ) → n ≡ m → crc_over r (drop n s) ≡ crc_over r (drop m s) = λ r n m e. ap (λ (k : ℕ). crc_over r (drop k s)) e in
    let fifth = c.turn8_with in
    let fourth = c.turn8_with-r32 in
    let third = c.turn8_with-r24 in
    let second = c.turn8_with-r16 in
    let first = c.turn8_with-r8 in
    let d = w.e * 2 ^ 64 + w.d in
    let b = d * 2 ^ 64 + w.c in
    ap (λ (r : ℕ). crc_over r (drop (at + 40) s)) (sym (xor_zero_r fifth.result))
    ∙ goes (bit_xor fifth.result 0) (at + 40) (at + 32 + 8) (omega arith) ∙ fifth.ensures 0
    ∙ ap (λ (x : ℕ). crc_over (bit_xor fourth.result x) (drop (at + 32) s)) (zero-add w.e)
    ∙ goes (bit_xor fourth.result w.e) (at + 32) (at + 24 + 8) (omega arith) ∙ fourth.ensures w.e
    ∙ goes (bit_xor third.result d) (at + 24) (at + 16 + 8) (omega arith) ∙ third.ensures d
    ∙ goes (bit_xor second.result b) (at + 16) (at + 8 + 8) (omega arith) ∙ second.ensures b
    ∙ first.ensures (four w.b w.c w.d w.e)
    ∙ ap (λ (x : ℕ). crc_over x (drop at s)) (xor_zero_l (number w))
