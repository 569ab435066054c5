-- `line::alike` meets its contract: the law of the first octet that is another. Assumes nothing.
use Prim.Native.Nat.{ℕ, ◌+◌, ◌*◌, ◌/◌, ◌≤◌, ◌<◌}
use native.Mathlib.Omega.{arith}
use mathlib.Core.Path.{◌≡◌, sym, ap, ap₂, ◌∙◌, subst}
use Rattle.line.specs.Octets.{low_first}
use Rattle.line.specs.Passed.{Has}
use borrow.Author.Rules.{rules}
use lib.Bits.{bit_xor}
use lib.Count.{count_trailing_zeros, trailing_le}
use Rattle.line.proofs.Words.{repeated, repeated_eight, alike_in_lem}
use Rattle.line.proofs.alike.Goals as goal

pub overflow_cast-result : goal.overflow_cast-result
overflow_cast-result c = omega (arith, trailing_le 64 ((bit_xor c.eight.result (c.from.result * 0x0101010101010101))))

pub returns : goal.returns
returns c =
    let a = c.args in
    let l = a.s.now in
    let e : (bit_xor c.eight.result (c.from.result * 0x0101010101010101)) ≡ bit_xor (low_first l a.at 8) (repeated a.v 8)
    = ap₂ bit_xor c.eight.ensures (ap (λ (x : ℕ). x * 0x0101010101010101) c.from.ensures ∙ repeated_eight a.v) in
    subst (λ (x : ℕ). (count_trailing_zeros 64 x / 8 ≤ 8) × ((k : ℕ) → k < count_trailing_zeros 64 x / 8 → Has l a.v (a.at + k))) (sym e)
    (alike_in_lem l (λ k. search rules) a.v (omega arith) 8 a.at)
