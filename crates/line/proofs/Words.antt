-- A word of octets, low octet first, and where its first octet stands that is not v. Assumes nothing.
use Prim.Native.Nat.{ℕ, zero, suc, ◌+◌, ◌-◌, ◌*◌, ◌/◌, ◌%◌, ◌^◌, ◌≤◌, ◌<◌}
use native.Mathlib.Omega.{arith}
use native.Mathlib.Nat.{add-zero, pow-suc, pow-succ', div-one, div-div-eq-div-mul}
use lib.Arith.{mod-mul}
use lib.Pow.{pow_pos}
use mathlib.Core.Path.{◌≡◌, refl, sym, ap, ap₂, ◌∙◌, subst}
use mathlib.Core.List.{List}
use lib.ListN.{length, get_or, drop}
use lib.Seq.{get_or-drop, ext_get_or}
use lib.Dec.{eqb}
use lib.Bits.{bit_xor, xor_block, xor_self, xor_add_and, and_le_l, and_le_r, xor_lt}
use lib.Count.{count_trailing_zeros, under}
use borrow.Author.Tests.{eqb-true, eqb-false}
use Rattle.line.specs.Octets.{low_first}
use Rattle.line.specs.Passed.{Has}
use Rattle.line.proofs.Symbols.{by_test}

-- of octets below 256
abbrev pub Octets : List ℕ → Type 0
Octets l = (k : ℕ) → get_or l k 0 < 256

-- a word of the octets from a place on
pub low_drop : (l : List ℕ) (at k n : ℕ) → low_first (drop at l) k n ≡ low_first l (at + k) n
unfolding low_first
low_drop l at k zero = refl
low_drop l at k (suc n) =
    ap₂ (λ (w x : ℕ). w * 256 + x)
    (low_drop l at (k + 1) n ∙ ap (λ (j : ℕ). low_first l j n) (let e : at + (k + 1) ≡ at + k + 1 = omega arith in e)) (get_or-drop at l k 0)

-- equal numbers stand in the same octets
pub low_same : (n : ℕ) (x y : List ℕ) → Octets x → Octets y → (at : ℕ) → low_first x at n ≡ low_first y at n
    → (k : ℕ) → k < n → get_or x (at + k) 0 ≡ get_or y (at + k) 0
unfolding low_first
low_same zero x y ox oy at h k g = absurd (omega arith)
low_same (suc n) x y ox oy at h zero g =
    let e : get_or x at 0 ≡ get_or y at 0 = omega (arith, ox at, oy at) in
    ap (λ (i : ℕ). get_or x i 0) (add-zero at) ∙ e ∙ sym (ap (λ (i : ℕ). get_or y i 0) (add-zero at))
low_same (suc n) x y ox oy at h (suc k) g =
    let p : at + suc k ≡ at + 1 + k = omega arith in
    let e = low_same n x y ox oy (at + 1) (omega (arith, ox at, oy at)) k (omega arith) in
    ap (λ (i : ℕ). get_or x i 0) p ∙ e ∙ sym (ap (λ (i : ℕ). get_or y i 0) p)

-- only one string of n octets stands for a number
pub low_only : (n : ℕ) (x y : List ℕ) → Octets x → Octets y → length x ≡ n → length y ≡ n → low_first x 0 n ≡ low_first y 0 n → x ≡ y
low_only n x y ox oy ex ey h =
    ext_get_or 0 x y (ex ∙ sym ey)
    (λ k g. let p : 0 + k ≡ k = omega arith in
    sym (ap (λ (i : ℕ). get_or x i 0) p) ∙ low_same n x y ox oy 0 h k (omega arith) ∙ ap (λ (i : ℕ). get_or y i 0) p)

-- the number of n octets v
unfoldable pub repeated : ℕ → ℕ → ℕ
repeated v zero = 0
repeated v (suc n) = repeated v n * 256 + v

pub repeated_eight : (v : ℕ) → v * 0x0101010101010101 ≡ repeated v 8
unfolding repeated
repeated_eight v = omega arith

-- how many zeros stand below the lowest digit that is set: fewer than j where one of the lowest j is set, and j more where none is
low_digits : (j n : ℕ) → n % 2 ^ suc j ≡ (n / 2 % 2 ^ j) * 2 + n % 2
low_digits j n = ap (λ (m : ℕ). n % m) (pow-suc 2 j) ∙ mod-mul n (pow_pos j) (omega arith)

zeros-some : (j k n : ℕ) → (n % 2 ^ j ≡ 0 → ⊥) → count_trailing_zeros (j + k) n < j
unfolding count_trailing_zeros
zeros-some zero k n h = absurd (h (omega arith))
zeros-some (suc j) k n h =
    let f = low_digits j n in
    subst (λ (d : ℕ). count_trailing_zeros d n < suc j) (let e : suc (j + k) ≡ suc j + k = omega arith in e)
    (digit (n % 2) (λ e. zeros-some j k (n / 2) (λ g. h (omega arith))))
  where
    digit : (d : ℕ) → (d ≡ 0 → count_trailing_zeros (j + k) (n / 2) < j) → under d (count_trailing_zeros (j + k) (n / 2)) < suc j
    digit zero ih = let l = ih refl in omega arith
    digit (suc d) ih = omega arith

zeros-none : (j k n : ℕ) → n % 2 ^ j ≡ 0 → count_trailing_zeros (j + k) n ≡ j + count_trailing_zeros k (n / 2 ^ j)
unfolding count_trailing_zeros
zeros-none zero k n h = ap₂ count_trailing_zeros (let e : 0 + k ≡ k = omega arith in e) (sym (div-one n)) ∙ omega arith
zeros-none (suc j) k n h =
    let f = low_digits j n in
    let ih = zeros-none j k (n / 2) (omega arith) in
    let e : n % 2 ≡ 0 = omega arith in
    let q : n / 2 / 2 ^ j ≡ n / 2 ^ suc j = div-div-eq-div-mul n 2 (2 ^ j) ∙ ap (λ (m : ℕ). n / m) (sym (pow-succ' 2 j)) in
    ap (λ (d : ℕ). count_trailing_zeros d n) (let s : suc j + k ≡ suc (j + k) = omega arith in s)
    ∙ ap (λ (d : ℕ). under d (count_trailing_zeros (j + k) (n / 2))) e
    ∙ ap suc (ih ∙ ap (λ (m : ℕ). j + count_trailing_zeros k m) q)
    ∙ omega arith

-- two octets whose xor is 0 are one
xor_same : (a b : ℕ) → bit_xor a b ≡ 0 → a ≡ b
xor_same a b h = omega (arith, xor_add_and a b, and_le_l a b, and_le_r a b)

-- of n octets, how many are v up to the first that is not: by the word's xor with n octets v
abbrev pub alike_in : List ℕ → ℕ → ℕ → ℕ → ℕ
alike_in l v n at = count_trailing_zeros (n * 8) (bit_xor (low_first l at n) (repeated v n)) / 8

pub alike_in_lem : (l : List ℕ) → Octets l → (v : ℕ) → v < 256 → (n at : ℕ) → (alike_in l v n at ≤ n) × ((k : ℕ) → k < alike_in l v n at → Has l v (at + k))
unfolding count_trailing_zeros low_first repeated
alike_in_lem l o v h zero at = (omega arith, λ k g. absurd (omega arith))
alike_in_lem l o v h (suc n) at =
    let x = get_or l at 0 in
    let w = bit_xor (low_first l (at + 1) n) (repeated v n) in
    let d : ℕ = n * 8 in
    let lt : bit_xor x v < 256 = xor_lt 8 x v (o at) h in
    let e : bit_xor (low_first l (at + 1) n * 256 + x) (repeated v n * 256 + v) ≡ w * 256 + bit_xor x v = xor_block 8 (low_first l (at + 1) n) (repeated v n) x v (o at) h in
    let s : count_trailing_zeros (suc n * 8) (bit_xor (low_first l (at + 1) n * 256 + x) (repeated v n * 256 + v)) ≡ count_trailing_zeros (8 + d) (w * 256 + bit_xor x v)
    = ap₂ count_trailing_zeros (let q : suc n * 8 ≡ 8 + n * 8 = omega arith in q) e in
    by_test (eqb x v)
    (λ t.
    let ih = alike_in_lem l o v h n (at + 1) in
    let u : x ≡ v = eqb-true x v t in
    let y : bit_xor x v ≡ 0 = ap (λ (m : ℕ). bit_xor m v) u ∙ xor_self v in
    let f = zeros-none 8 d (w * 256 + bit_xor x v) (omega arith) in
    let g : count_trailing_zeros d ((w * 256 + bit_xor x v) / 256) ≡ count_trailing_zeros d w = ap (count_trailing_zeros d) (omega arith) in (
      omega arith,
      λ k b. by_test (eqb k 0)
          (λ z. let j = eqb-true k 0 z in ap (λ (m : ℕ). get_or l m 0) (let r : at + k ≡ at = omega arith in r) ∙ u)
          (λ z. let j = eqb-false k 0 z in
          ap (λ (m : ℕ). get_or l m 0) (let r : at + k ≡ at + 1 + (k - 1) = omega arith in r) ∙ ih.1 (k - 1) (omega arith)),
    ))
    (λ t.
    let y = eqb-false x v t in
    let f = zeros-some 8 d (w * 256 + bit_xor x v) (λ z. y (xor_same x v (omega arith))) in
    (omega arith, λ k b. absurd (omega arith)))
