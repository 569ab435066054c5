-- A word of 64 bits taken off the front of a message: words side by side are one number, and 1, 145, 183, 211 and 300 are a multiple of the divisor.
-- Assumes nothing.
use mathlib.Core.Path.{◌≡◌, refl, sym, ap, ap₂, ◌∙◌}
use mathlib.Core.List.{List, [], ◌∷◌}
use Prim.Native.Nat.{ℕ, ◌+◌, ◌*◌, ◌/◌, ◌%◌, ◌-◌, ◌^◌, ◌≤◌, ◌<◌}
use native.Mathlib.Nat.{mul-add-mod_self_right, mul-add-div_right, mod-eq_of_lt, div-eq_of_lt, add-zero, zero-add, mul_assoc, add-mul, div-add-mod'}
use native.Mathlib.Omega.{arith}
use lib.Bits.{bit_xor, xor_assoc, xor_comm, xor_zero_l, xor_zero_r, xor_block, xor_lt}
use lib.Dec.{lit<}
use lib.ListN.{length, get_or, drop, length-drop}
use lib.Seq.{get_or-drop}
use Rattle.crc.specs.Crc.{crc_bits, crc_over}
use Rattle.crc.specs.Words.{crc_zeros, word, word_at}
use Rattle.crc.proofs.Linear.{bits-xor, bits-add, bits_shifted, bits-lt, slice, zeros-xor, over_word, turn}
use Rattle.sparse.specs.Words.{four, five, spread}
use Rattle.sparse.proofs.Multiple.{trace, trace-none, xor-none}

-- ---- the multiple

-- THE ONE COMPUTATION: of the highest bit of a register no trace is left
top : trace (300 ∷ 155 ∷ 117 ∷ 89 ∷ 0 ∷ []) 0x8000_0000 ≡ 0
top = refl

register : (y : ℕ) → y < 0x1_0000_0000 → crc_bits 300 y ≡ bit_xor (crc_bits 155 y) (bit_xor (crc_bits 117 y) (bit_xor (crc_bits 89 y) y))
register y h =
    xor-none (crc_bits 300 y) (trace (155 ∷ 117 ∷ 89 ∷ 0 ∷ []) y) (trace-none (300 ∷ 155 ∷ 117 ∷ 89 ∷ 0 ∷ []) top y h)
    ∙ ap (λ (x : ℕ). bit_xor (crc_bits 155 y) (bit_xor (crc_bits 117 y) (bit_xor (crc_bits 89 y) x))) (xor_zero_r y)

-- a word d bits on, after 32 bits of it left
moved : (d k m n t : ℕ) → n ≡ d + (32 + (k + m)) → crc_bits n (t * 2 ^ d) ≡ crc_bits m (crc_bits k (crc_bits 32 t))
moved d k m n t e =
    ap (λ (j : ℕ). crc_bits j (t * 2 ^ d)) e ∙ bits-add d (32 + (k + m)) (t * 2 ^ d) ∙ ap (crc_bits (32 + (k + m))) (bits_shifted d t)
    ∙ bits-add 32 (k + m) t ∙ bits-add k m (crc_bits 32 t)

far_bits : (m n t : ℕ) → n ≡ 268 + m → t < 2 ^ 64 → crc_bits n (crc_bits 64 t) ≡ crc_bits n (spread t)
far_bits m n t e h =
    let y = crc_bits 32 t in
    let r = crc_bits m in
    let whole : crc_bits n (crc_bits 64 t) ≡ r (crc_bits 300 y) =
    sym (bits-add 64 n t) ∙ (let p : 64 + n ≡ 32 + (300 + m) = omega arith in ap (λ (j : ℕ). crc_bits j t) p) ∙ bits-add 32 (300 + m) t ∙ bits-add 300 m y in
    whole ∙ ap r (register y (bits-lt 32 t h))
    ∙ bits-xor m (crc_bits 155 y) (bit_xor (crc_bits 117 y) (bit_xor (crc_bits 89 y) y))
    ∙ ap (bit_xor (r (crc_bits 155 y))) (bits-xor m (crc_bits 117 y) (bit_xor (crc_bits 89 y) y)
    ∙ ap (bit_xor (r (crc_bits 117 y))) (bits-xor m (crc_bits 89 y) y))
    ∙ sym (bits-xor n (t * 2 ^ 81) (bit_xor (t * 2 ^ 119) (bit_xor (t * 2 ^ 147) (t * 2 ^ 236)))
    ∙ ap₂ bit_xor (moved 81 155 m n t (omega arith)) (bits-xor n (t * 2 ^ 119) (bit_xor (t * 2 ^ 147) (t * 2 ^ 236))
    ∙ ap₂ bit_xor (moved 119 117 m n t (omega arith)) (bits-xor n (t * 2 ^ 147) (t * 2 ^ 236)
    ∙ ap₂ bit_xor (moved 147 89 m n t (omega arith)) (moved 236 0 m n t (omega arith)))))

-- the same in octets: 34 are left at least
far : (n t : ℕ) → 34 ≤ n → t < 2 ^ 64 → crc_zeros n (crc_zeros 8 t) ≡ crc_zeros n (spread t)
unfolding crc_zeros
far n t l h = far_bits (n * 8 - 268) (n * 8) t (omega arith) h

-- ---- one word of a message

-- a number above a word
above_word : (h t : ℕ) → t < 2 ^ 64 → crc_zeros 8 (h * 2 ^ 64 + t) ≡ bit_xor (crc_zeros 8 t) h
unfolding crc_zeros
above_word h t l =
    slice 64 0 (h * 2 ^ 64 + t)
    ∙ ap₂ bit_xor (ap (crc_bits 64) (mul-add-mod_self_right h (2 ^ 64) t ∙ mod-eq_of_lt l))
    (mul-add-div_right (lit< tt) h t ∙ ap (λ (x : ℕ). h + x) (div-eq_of_lt l) ∙ add-zero h)

pub xor_low : (h a x : ℕ) → a < 2 ^ 64 → x < 2 ^ 64 → bit_xor (h * 2 ^ 64 + a) x ≡ h * 2 ^ 64 + bit_xor a x
xor_low h a x la lx = ap (bit_xor (h * 2 ^ 64 + a)) (sym (zero-add x)) ∙ xor_block 64 h 0 a x la lx ∙ ap (λ (y : ℕ). y * 2 ^ 64 + bit_xor a x) (xor_zero_r h)

-- the next word by a table, with what is carried to it
pub next_word : (h a : ℕ) (s : List ℕ) (i x : ℕ) → ((k : ℕ) → get_or s k 0 < 256) → a < 2 ^ 64 → x < 2 ^ 64 → i + 8 ≤ length s → x ≡ word_at 7 s i
    → crc_over (bit_xor (crc_zeros 8 (bit_xor a x)) h) (drop (i + 8) s) ≡ crc_over (h * 2 ^ 64 + a) (drop i s)
next_word h a s i x bytes la lx fits e =
    ap (λ (y : ℕ). crc_over y (drop (i + 8) s))
    (sym (above_word h (bit_xor a x) (xor_lt 64 a x la lx)) ∙ ap (crc_zeros 8) (sym (xor_low h a x la lx) ∙ ap (bit_xor (h * 2 ^ 64 + a)) e))
    ∙ turn 7 s i (h * 2 ^ 64 + a) bytes fits

-- two numbers that leave the same behind a message leave the same under it
pub same_end : (a b h : ℕ) (s : List ℕ) → ((k : ℕ) → get_or s k 0 < 256) → crc_zeros (length s) a ≡ crc_zeros (length s) b
    → crc_over (bit_xor a h) s ≡ crc_over (bit_xor b h) s
same_end a b h s bytes e =
    let n = length s in
    let apart : (x : ℕ) → crc_over (bit_xor x h) s ≡ bit_xor (crc_zeros n x) (crc_zeros n (bit_xor h (word s))) =
    λ x. over_word (bit_xor x h) s bytes ∙ ap (crc_zeros n) (xor_assoc x h (word s)) ∙ zeros-xor n x (bit_xor h (word s)) in
    apart a ∙ ap (λ (y : ℕ). bit_xor y (crc_zeros n (bit_xor h (word s)))) e ∙ sym (apart b)

-- THE LAW: the next word taken off, and carried on
pub word-taken : (h a r : ℕ) (s : List ℕ) (i x : ℕ) → ((k : ℕ) → get_or s k 0 < 256) → a < 2 ^ 64 → x < 2 ^ 64 → i + 48 ≤ length s → x ≡ word_at 7 s i
    → r ≡ bit_xor h (spread (bit_xor a x)) → crc_over r (drop (i + 8) s) ≡ crc_over (h * 2 ^ 64 + a) (drop i s)
word-taken h a r s i x bytes la lx fits e p =
    let t = bit_xor a x in
    let l = drop (i + 8) s in
    ap (λ (y : ℕ). crc_over y l) (p ∙ xor_comm h (spread t))
    ∙ sym (same_end (crc_zeros 8 t) (spread t) h l (λ k. rw get_or-drop (bytes (i + 8 + k)))
    (far (length l) t (simp length-drop (omega arith)) (xor_lt 64 a x la lx)))
    ∙ next_word h a s i x bytes la lx (omega arith) e

-- ---- words side by side

xor-five : (a b c d e f g h i j : ℕ) → a < 2 ^ 64 → b < 2 ^ 64 → c < 2 ^ 64 → d < 2 ^ 64 → f < 2 ^ 64 → g < 2 ^ 64 → h < 2 ^ 64 → i < 2 ^ 64
    → bit_xor (five a b c d e) (five f g h i j) ≡ five (bit_xor a f) (bit_xor b g) (bit_xor c h) (bit_xor d i) (bit_xor e j)
xor-five a b c d e f g h i j la lb lc ld lf lg lh li =
    let up : ℕ → ℕ → ℕ = λ l x. x * 2 ^ 64 + l in
    xor_block 64 (four b c d e) (four g h i j) a f la lf
    ∙ ap (up (bit_xor a f)) (xor_block 64 ((e * 2 ^ 64 + d) * 2 ^ 64 + c) ((j * 2 ^ 64 + i) * 2 ^ 64 + h) b g lb lg
    ∙ ap (up (bit_xor b g)) (xor_block 64 (e * 2 ^ 64 + d) (j * 2 ^ 64 + i) c h lc lh
    ∙ ap (up (bit_xor c h)) (xor_block 64 e j d i ld li)))

-- a word j bits up, as two words
parts : (j k t : ℕ) → t * 2 ^ j ≡ t / 2 ^ k * (2 ^ k * 2 ^ j) + t % 2 ^ k * 2 ^ j
parts j k t =
    ap (λ (x : ℕ). x * 2 ^ j) (sym (div-add-mod' t (2 ^ k))) ∙ add-mul (t / 2 ^ k * 2 ^ k) (t % 2 ^ k) (2 ^ j)
    ∙ ap (λ (x : ℕ). x + t % 2 ^ k * 2 ^ j) (mul_assoc (t / 2 ^ k) (2 ^ k) (2 ^ j))

second : (l h : ℕ) → (h * 2 ^ 64 + l) * 2 ^ 64 ≡ five 0 l h 0 0
second l h =
    ap (λ (x : ℕ). (x * 2 ^ 64 + l) * 2 ^ 64) (sym (zero-add h)) ∙ sym (add-zero (((0 + h) * 2 ^ 64 + l) * 2 ^ 64))

third : (l h : ℕ) → (h * 2 ^ 64 + l) * 2 ^ 128 ≡ five 0 0 l h 0
third l h =
    sym (mul_assoc (h * 2 ^ 64 + l) (2 ^ 64) (2 ^ 64)) ∙ ap (λ (x : ℕ). x * 2 ^ 64) (second l h)
    ∙ sym (add-zero (five 0 l h 0 0 * 2 ^ 64))

fourth : (l h : ℕ) → (h * 2 ^ 64 + l) * 2 ^ 192 ≡ five 0 0 0 l h
fourth l h =
    let x = h * 2 ^ 64 + l in
    sym (mul_assoc x (2 ^ 64) (2 ^ 128)) ∙ sym (mul_assoc (x * 2 ^ 64) (2 ^ 64) (2 ^ 64))
    ∙ ap (λ (y : ℕ). y * 2 ^ 64 * 2 ^ 64) (sym (add-zero (x * 2 ^ 64)))
    ∙ ap (λ (y : ℕ). y * 2 ^ 64) (sym (add-zero ((x * 2 ^ 64 + 0) * 2 ^ 64)))
    ∙ sym (add-zero (((x * 2 ^ 64 + 0) * 2 ^ 64 + 0) * 2 ^ 64))

at_second : (j k t : ℕ) → 2 ^ k * 2 ^ j ≡ 2 ^ 64 → t * (2 ^ j * 2 ^ 64) ≡ five 0 (t % 2 ^ k * 2 ^ j) (t / 2 ^ k) 0 0
at_second j k t e =
    sym (mul_assoc t (2 ^ j) (2 ^ 64)) ∙ ap (λ (x : ℕ). x * 2 ^ 64) (parts j k t)
    ∙ ap (λ (x : ℕ). (t / 2 ^ k * x + t % 2 ^ k * 2 ^ j) * 2 ^ 64) e ∙ second (t % 2 ^ k * 2 ^ j) (t / 2 ^ k)

at_third : (j k t : ℕ) → 2 ^ k * 2 ^ j ≡ 2 ^ 64 → t * (2 ^ j * 2 ^ 128) ≡ five 0 0 (t % 2 ^ k * 2 ^ j) (t / 2 ^ k) 0
at_third j k t e =
    sym (mul_assoc t (2 ^ j) (2 ^ 128)) ∙ ap (λ (x : ℕ). x * 2 ^ 128) (parts j k t)
    ∙ ap (λ (x : ℕ). (t / 2 ^ k * x + t % 2 ^ k * 2 ^ j) * 2 ^ 128) e ∙ third (t % 2 ^ k * 2 ^ j) (t / 2 ^ k)

at_fourth : (j k t : ℕ) → 2 ^ k * 2 ^ j ≡ 2 ^ 64 → t * (2 ^ j * 2 ^ 192) ≡ five 0 0 0 (t % 2 ^ k * 2 ^ j) (t / 2 ^ k)
at_fourth j k t e =
    sym (mul_assoc t (2 ^ j) (2 ^ 192)) ∙ ap (λ (x : ℕ). x * 2 ^ 192) (parts j k t)
    ∙ ap (λ (x : ℕ). (t / 2 ^ k * x + t % 2 ^ k * 2 ^ j) * 2 ^ 192) e ∙ fourth (t % 2 ^ k * 2 ^ j) (t / 2 ^ k)

zero-lt : 0 < 2 ^ 64
zero-lt = lit< tt

-- what is carried on, in words
module _ (t : ℕ) (lt : t < 2 ^ 64) where
  abbrev l17 : ℕ
  l17 = t % 2 ^ 47 * 2 ^ 17

  abbrev l55 : ℕ
  l55 = t % 2 ^ 9 * 2 ^ 55

  abbrev l19 : ℕ
  l19 = t % 2 ^ 45 * 2 ^ 19

  abbrev l44 : ℕ
  l44 = t % 2 ^ 20 * 2 ^ 44

  b17 : l17 < 2 ^ 64
  b17 = omega arith

  b55 : l55 < 2 ^ 64
  b55 = omega arith

  b19 : l19 < 2 ^ 64
  b19 = omega arith

  b44 : l44 < 2 ^ 64
  b44 = omega arith

  h47 : t / 2 ^ 47 < 2 ^ 64
  h47 = omega arith

  h9 : t / 2 ^ 9 < 2 ^ 64
  h9 = omega arith

  h45 : t / 2 ^ 45 < 2 ^ 64
  h45 = omega arith

  low_two : bit_xor (t * 2 ^ 147) (t * 2 ^ 236) ≡ five 0 0 l19 (bit_xor (t / 2 ^ 45) l44) (t / 2 ^ 20)
  low_two =
      ap₂ bit_xor (at_third 19 45 t refl) (at_fourth 44 20 t refl)
      ∙ xor-five 0 0 l19 (t / 2 ^ 45) 0 0 0 0 l44 (t / 2 ^ 20) zero-lt zero-lt b19 h45 zero-lt zero-lt zero-lt b44
      ∙ ap₂ (λ (x y : ℕ). five 0 0 x (bit_xor (t / 2 ^ 45) l44) y) (xor_zero_r l19) (xor_zero_l (t / 2 ^ 20))

  low_three : bit_xor (t * 2 ^ 119) (bit_xor (t * 2 ^ 147) (t * 2 ^ 236))
      ≡ five 0 l55 (bit_xor (t / 2 ^ 9) l19) (bit_xor (t / 2 ^ 45) l44) (t / 2 ^ 20)
  low_three =
      let r = bit_xor (t / 2 ^ 45) l44 in
      ap₂ bit_xor (at_second 55 9 t refl) low_two
      ∙ xor-five 0 l55 (t / 2 ^ 9) 0 0 0 0 l19 r (t / 2 ^ 20) zero-lt b55 h9 zero-lt zero-lt zero-lt b19 (xor_lt 64 (t / 2 ^ 45) l44 h45 b44)
      ∙ ap₂ (λ (x y : ℕ). five 0 x (bit_xor (t / 2 ^ 9) l19) y (bit_xor 0 (t / 2 ^ 20))) (xor_zero_r l55) (xor_zero_l r)
      ∙ ap (five 0 l55 (bit_xor (t / 2 ^ 9) l19) r) (xor_zero_l (t / 2 ^ 20))

  spread_words : spread t ≡ five 0 (bit_xor l17 l55) (bit_xor (t / 2 ^ 47) (bit_xor (t / 2 ^ 9) l19)) (bit_xor (t / 2 ^ 45) l44) (t / 2 ^ 20)
  spread_words =
      let q = bit_xor (t / 2 ^ 9) l19 in
      let r = bit_xor (t / 2 ^ 45) l44 in
      ap₂ bit_xor (at_second 17 47 t refl) low_three
      ∙ xor-five 0 l17 (t / 2 ^ 47) 0 0 0 l55 q r (t / 2 ^ 20) zero-lt b17 h47 zero-lt zero-lt b55 (xor_lt 64 (t / 2 ^ 9) l19 h9 b19)
      (xor_lt 64 (t / 2 ^ 45) l44 h45 b44)
      ∙ ap₂ (five 0 (bit_xor l17 l55) (bit_xor (t / 2 ^ 47) q)) (xor_zero_l r) (xor_zero_l (t / 2 ^ 20))

  -- in the form of the code
  pub carried : (b c d e : ℕ) → b < 2 ^ 64 → c < 2 ^ 64 → d < 2 ^ 64 → e < 2 ^ 64
      → five b (bit_xor c (bit_xor l17 l55)) (bit_xor d (bit_xor (t / 2 ^ 47) (bit_xor (t / 2 ^ 9) l19))) (bit_xor e (bit_xor (t / 2 ^ 45) l44)) (t / 2 ^ 20)
      ≡ bit_xor (four b c d e) (spread t)
  carried b c d e lb lc ld le =
      let p = bit_xor l17 l55 in
      let q = bit_xor (t / 2 ^ 47) (bit_xor (t / 2 ^ 9) l19) in
      let r = bit_xor (t / 2 ^ 45) l44 in
      sym (ap₂ bit_xor (ap (λ (x : ℕ). ((x * 2 ^ 64 + d) * 2 ^ 64 + c) * 2 ^ 64 + b) (sym (zero-add e))) spread_words
      ∙ xor-five b c d e 0 0 p q r (t / 2 ^ 20) lb lc ld le zero-lt (xor_lt 64 l17 l55 b17 b55)
      (xor_lt 64 (t / 2 ^ 47) (bit_xor (t / 2 ^ 9) l19) h47 (xor_lt 64 (t / 2 ^ 9) l19 h9 b19)) (xor_lt 64 (t / 2 ^ 45) l44 h45 b44)
      ∙ ap₂ (λ (x y : ℕ). five x (bit_xor c p) (bit_xor d q) (bit_xor e r) y) (xor_zero_r b) (xor_zero_l (t / 2 ^ 20)))
