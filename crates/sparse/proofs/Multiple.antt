-- A sum of powers of x that is a multiple of the divisor leaves no trace of a register: it is enough that it leaves none of the highest bit.
-- Assumes nothing.
use mathlib.Core.Path.{◌≡◌, refl, sym, ap, ap₂, ◌∙◌, subst}
use mathlib.Core.List.{List, [], ◌∷◌}
use Prim.Native.Nat.{ℕ, zero, suc, ◌+◌, ◌*◌, ◌/◌, ◌%◌, ◌-◌, ◌^◌, ◌≤◌, ◌<◌}
use native.Mathlib.Nat.{add_comm, zero-mul, one-mul, pow-suc, mul_comm, mod-lt, div-add-mod', div-lt_iff_lt-mul}
use native.Mathlib.Omega.{arith}
use lib.Bits.{bit_xor, xor_comm, xor_zero_l, xor_shifted}
use lib.Arith.{lt-one}
use lib.Pow.{pow_pos, pow-add}
use Rattle.crc.specs.Crc.{crc_bits}
use Rattle.crc.proofs.Xor.{xor_exchange, xor-twice}
use Rattle.crc.proofs.Linear.{bits-xor, bits-add, bits-zero, bits_shifted}

-- the registers after each of these numbers of bits, xored
abbrev pub trace : List ℕ → ℕ → ℕ
trace [] x = 0
trace (k ∷ ks) x = bit_xor (crc_bits k x) (trace ks x)

trace-xor : (ks : List ℕ) (a b : ℕ) → trace ks (bit_xor a b) ≡ bit_xor (trace ks a) (trace ks b)
trace-xor [] a b = refl
trace-xor (k ∷ ks) a b =
    ap₂ bit_xor (bits-xor k a b) (trace-xor ks a b) ∙ xor_exchange (crc_bits k a) (crc_bits k b) (trace ks a) (trace ks b)

swap : (k m x : ℕ) → crc_bits k (crc_bits m x) ≡ crc_bits m (crc_bits k x)
swap k m x = sym (bits-add m k x) ∙ ap (λ (j : ℕ). crc_bits j x) (add_comm m k) ∙ bits-add k m x

trace-bits : (ks : List ℕ) (m x : ℕ) → trace ks (crc_bits m x) ≡ crc_bits m (trace ks x)
trace-bits [] m x = sym (bits-zero m)
trace-bits (k ∷ ks) m x =
    ap₂ bit_xor (swap k m x) (trace-bits ks m x) ∙ sym (bits-xor m (crc_bits k x) (trace ks x))

trace-zero : (ks : List ℕ) → trace ks 0 ≡ 0
trace-zero [] = refl
trace-zero (k ∷ ks) = ap₂ bit_xor (bits-zero k) (trace-zero ks)

module _ (ks : List ℕ) (top : trace ks 0x8000_0000 ≡ 0) where
  trace_power : (m j : ℕ) → m + j ≡ 31 → trace ks (2 ^ m) ≡ 0
  trace_power m j e =
      ap (trace ks) (sym (bits_shifted j (2 ^ m))) ∙ trace-bits ks j (2 ^ m * 2 ^ j)
      ∙ ap (λ (y : ℕ). crc_bits j (trace ks y)) (sym (pow-add 2 m j) ∙ ap (λ (k : ℕ). 2 ^ k) e)
      ∙ ap (crc_bits j) top ∙ bits-zero j

  trace-digit : (m h : ℕ) → m < 32 → h < 2 → trace ks (h * 2 ^ m) ≡ 0
  trace-digit m zero l b = ap (trace ks) (zero-mul (2 ^ m)) ∙ trace-zero ks
  trace-digit m (suc zero) l b = ap (trace ks) (one-mul (2 ^ m)) ∙ trace_power m (31 - m) (omega arith)
  trace-digit m (suc (suc h)) l b = omega arith

  trace_below : (m x : ℕ) → m ≤ 32 → x < 2 ^ m → trace ks x ≡ 0
  trace_below zero x l b = ap (trace ks) (lt-one b) ∙ trace-zero ks
  trace_below (suc m) x l b =
      let parts : x ≡ bit_xor (x % 2 ^ m) (x / 2 ^ m * 2 ^ m) =
      sym (div-add-mod' x (2 ^ m)) ∙ sym (xor_shifted (x / 2 ^ m) m (x % 2 ^ m) (mod-lt x (pow_pos m))) ∙ xor_comm (x / 2 ^ m * 2 ^ m) (x % 2 ^ m) in
      ap (trace ks) parts ∙ trace-xor ks (x % 2 ^ m) (x / 2 ^ m * 2 ^ m)
      ∙ ap₂ bit_xor (trace_below m (x % 2 ^ m) (omega arith) (mod-lt x (pow_pos m)))
      (trace-digit m (x / 2 ^ m) (omega arith) ((div-lt_iff_lt-mul (pow_pos m)).1 (subst (λ (y : ℕ). x < y) (pow-suc 2 m ∙ mul_comm (2 ^ m) 2) b)))

  -- NO TRACE OF A REGISTER
  pub trace-none : (x : ℕ) → x < 0x1_0000_0000 → trace ks x ≡ 0
  trace-none x h = trace_below 32 x (omega arith) h

-- two numbers whose sum is 0 are one
pub xor-none : (a b : ℕ) → bit_xor a b ≡ 0 → a ≡ b
xor-none a b e = sym (xor-twice a b) ∙ ap (λ (x : ℕ). bit_xor x b) e ∙ xor_zero_l b
