-- `fcs::fill_row` meets its contract: the first entry, and then a power of two of them each time.
-- Assumes nothing.
use mathlib.Core.Path.{◌≡◌, subst}
use Prim.Native.Nat.{ℕ, suc, ◌+◌, ◌*◌, ◌/◌, ◌%◌, ◌^◌, ◌≤◌, ◌<◌}
use native.Mathlib.Nat.{pow-suc}
use native.Mathlib.Omega.{arith}
use lib.Pow.{pow_pos, pow_mono}
use Rattle.fcs.specs.Lent.{Doubled}
use Rattle.fcs.proofs.Lent.{doubled, exponent}
use Rattle.fcs.proofs.fill_row.Goals as goal

-- a row's power of two and what lies below it
row-doubled : (i n j : ℕ) → i % 256 ≡ 0 → n ≡ 2 ^ j → j ≤ 7 → Doubled (i + n) n
row-doubled i n j e p l =
    let here : i / 256 * 256 + 2 ^ j ≡ i + n = omega arith in
    let long : 2 ^ j ≡ n = omega arith in
    subst (λ (m : ℕ). Doubled (i + n) m) long (subst (λ (m : ℕ). Doubled m (2 ^ j)) here (doubled (i / 256) j l))

pub stretch-requires : goal.stretch-requires
stretch-requires c =
    let at = c.loop-n in
    let i = c.args.i in
    let n = at.n in
    let j = at.invariant.0 in
    let e : n ≡ 2 ^ j = at.invariant.1 in
    let low : 2 ^ j < 256 = omega arith in
    let l : j ≤ 7 = exponent j low in
    let most : 2 ^ j ≤ 128 = pow_mono l in
    let some : 0 < 2 ^ j = pow_pos j in
    (at.invariant.3, omega arith, omega arith, omega arith, at.invariant.6, row-doubled i n j at.invariant.4 e l)

pub loop-n-preserved : goal.loop-n-preserved
loop-n-preserved c =
    let at = c.loop-n in
    let n = at.n in
    let j = at.invariant.0 in
    let e : n ≡ 2 ^ j = at.invariant.1 in
    let low : 2 ^ j < 256 = omega arith in
    let most : 2 ^ j ≤ 128 = pow_mono (exponent j low) in
    let twice : 2 ^ suc j ≡ 2 ^ j * 2 = pow-suc 2 j in (
      suc j,
      omega arith,
      omega arith,
      omega arith,
      at.invariant.4,
      at.invariant.5,
      λ k h. c.stretch.ensures k (omega arith),
    )
