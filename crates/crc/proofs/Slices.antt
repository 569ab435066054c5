-- Two registers in one number are linear as one is: the law of every table, and the two registers taken apart.
-- Assumes nothing.
use mathlib.Core.Path.{◌≡◌, refl, sym, ap, ap₂, ◌∙◌}
use Prim.Native.Nat.{ℕ, zero, suc, ◌+◌, ◌*◌, ◌/◌, ◌%◌, ◌^◌, ◌<◌}
use native.Mathlib.Nat.{add-zero, mul-add-mod_self_right, mul-add-div_right, mod-eq_of_lt, div-eq_of_lt}
use native.Mathlib.Omega.{arith}
use lib.Bits.{bit_xor, xor_comm, xor_block, xor_shifted}
use lib.Dec.{lit<}
use Rattle.crc.specs.Crc.{crc_bits}
use Rattle.crc.specs.Words.{crc_zeros}
use Rattle.crc.proofs.Xor.{xor_exchange}
use Rattle.crc.proofs.Linear.{bits-xor, bits-add, bits-zero, bits-lt, slice}
use Rattle.crc.specs.Both.{above, both}

xor_times : (p q : ℕ) → bit_xor p q * 0x1_0000_0000 ≡ bit_xor (p * 0x1_0000_0000) (q * 0x1_0000_0000)
xor_times p q =
    sym (add-zero (bit_xor p q * 0x1_0000_0000)) ∙ sym (xor_block 32 p q 0 0 (lit< tt) (lit< tt))
    ∙ ap₂ bit_xor (add-zero (p * 0x1_0000_0000)) (add-zero (q * 0x1_0000_0000))

above-xor : (k a b : ℕ) → above k (bit_xor a b) ≡ bit_xor (above k a) (above k b)
above-xor k a b =
    ap (λ (y : ℕ). bit_xor (bit_xor a b) (y * 0x1_0000_0000)) (bits-xor k a b)
    ∙ ap (bit_xor (bit_xor a b)) (xor_times (crc_bits k a) (crc_bits k b))
    ∙ xor_exchange a b (crc_bits k a * 0x1_0000_0000) (crc_bits k b * 0x1_0000_0000)

pub both_is : (k n v : ℕ) → above k (crc_bits n v) ≡ both k n v
both_is k n zero = ap (above k) (bits-zero n) ∙ ap (λ (x : ℕ). x * 0x1_0000_0000) (bits-zero k)
both_is k n (suc v) = refl

-- ONE LAW FOR EVERY TABLE: the m low bits, and what is above them with m bits fewer to go
both_slice : (k m n x : ℕ) → both k (m + n) x ≡ bit_xor (both k (m + n) (x % 2 ^ m)) (both k n (x / 2 ^ m))
both_slice k m n x =
    sym (both_is k (m + n) x)
    ∙ ap (above k) (slice m n x)
    ∙ above-xor k (crc_bits (m + n) (x % 2 ^ m)) (crc_bits n (x / 2 ^ m))
    ∙ ap₂ bit_xor (both_is k (m + n) (x % 2 ^ m)) (both_is k n (x / 2 ^ m))

-- four octets by five tables, of 6, 6, 6, 7 bits and what is left, in the form of the code
pub five : (k n x : ℕ) → both k (6 + (6 + (6 + (7 + n)))) x
    ≡ bit_xor (both k (6 + (6 + (6 + (7 + n)))) (x % 64)) (bit_xor (both k (6 + (6 + (7 + n))) (x / 64 % 64))
    (bit_xor (both k (6 + (7 + n)) (x / 64 / 64 % 64)) (bit_xor (both k (7 + n) (x / 64 / 64 / 64 % 128)) (both k n (x / 64 / 64 / 64 / 128)))))
five k n x =
    both_slice k 6 (6 + (6 + (7 + n))) x
    ∙ ap (bit_xor (both k (6 + (6 + (6 + (7 + n)))) (x % 64))) (both_slice k 6 (6 + (7 + n)) (x / 64)
    ∙ ap (bit_xor (both k (6 + (6 + (7 + n))) (x / 64 % 64))) (both_slice k 6 (7 + n) (x / 64 / 64)
    ∙ ap (bit_xor (both k (6 + (7 + n)) (x / 64 / 64 % 64))) (both_slice k 7 n (x / 64 / 64 / 64))))

-- the two halves of a number
pub halves : (k n x : ℕ) → both k (32 + n) x ≡ bit_xor (both k (32 + n) (x % 0x1_0000_0000)) (both k n (x / 0x1_0000_0000))
halves k n x = both_slice k 32 n x

-- ---- the two registers taken apart

above_low : (a b : ℕ) → a < 0x1_0000_0000 → bit_xor a (b * 0x1_0000_0000) % 0x1_0000_0000 ≡ a
above_low a b h =
    ap (λ (x : ℕ). x % 0x1_0000_0000) (xor_comm a (b * 0x1_0000_0000) ∙ xor_shifted b 32 a h)
    ∙ mul-add-mod_self_right b 0x1_0000_0000 a ∙ mod-eq_of_lt h

above_high : (a b : ℕ) → a < 0x1_0000_0000 → bit_xor a (b * 0x1_0000_0000) / 0x1_0000_0000 ≡ b
above_high a b h =
    ap (λ (x : ℕ). x / 0x1_0000_0000) (xor_comm a (b * 0x1_0000_0000) ∙ xor_shifted b 32 a h)
    ∙ mul-add-div_right (lit< tt) b a ∙ ap (λ (x : ℕ). b + x) (div-eq_of_lt h) ∙ add-zero b

pub zeros_low : (k n x : ℕ) → x < 2 ^ (n * 8 + 32) → both (k * 8) (n * 8) x % 0x1_0000_0000 ≡ crc_zeros n x
unfolding crc_zeros
zeros_low k n x h =
    ap (λ (y : ℕ). y % 0x1_0000_0000) (sym (both_is (k * 8) (n * 8) x))
    ∙ above_low (crc_bits (n * 8) x) (crc_bits (k * 8) (crc_bits (n * 8) x)) (bits-lt (n * 8) x h)

pub zeros_high : (k n x : ℕ) → x < 2 ^ (n * 8 + 32) → both (k * 8) (n * 8) x / 0x1_0000_0000 ≡ crc_zeros (n + k) x
unfolding crc_zeros
zeros_high k n x h =
    let e : n * 8 + k * 8 ≡ (n + k) * 8 = omega arith in
    ap (λ (y : ℕ). y / 0x1_0000_0000) (sym (both_is (k * 8) (n * 8) x))
    ∙ above_high (crc_bits (n * 8) x) (crc_bits (k * 8) (crc_bits (n * 8) x)) (bits-lt (n * 8) x h)
    ∙ sym (bits-add (n * 8) (k * 8) x) ∙ ap (λ (m : ℕ). crc_bits m x) e
