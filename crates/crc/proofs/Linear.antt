-- The register's step is linear over `bit_xor`, and so is every number of steps. It holds at any number, and not only below 2 ^ 32:
-- so a register and the octets to come can be one number. All that a fast division needs follows:
--     slice         the m low bits of a number by a table, and what is above them with m bits fewer to go
--     over_word     the octets of a list at once: n octets are n octets' steps of the register xored with the list as one number
-- `turn`, `turn_two` and `turn_one` say them in the form of a loop's turn.
-- Assumes nothing.
use mathlib.Core.Path.{◌≡◌, refl, sym, ap, ap₂, ◌∙◌, subst}
use mathlib.Core.List.{List, [], ◌∷◌, ◌++◌}
use Prim.Native.Nat.{ℕ, zero, suc, ◌+◌, ◌*◌, ◌/◌, ◌%◌, ◌^◌, ◌≤◌, ◌<◌}
use native.Mathlib.Nat.{mod-lt, zero-lt-suc, mul-mod_left, mul-div_cancel, mul_assoc, pow-suc, mul-one, add_comm, div-add-mod', div-lt_iff_lt-mul, zero-add}
use native.Mathlib.Nat.{suc-add, lt_of_lt_of_le}
use native.Mathlib.Numerals.{add-one}
use native.Mathlib.Omega.{arith}
use lib.Bits.{bit_xor, xor_assoc, xor_comm, xor_zero_r, xor_shifted, xor_shr, xor_mod, xor_lt}
use lib.Pow.{pow_pos, pow_mono}
use lib.ListN.{length, get_or, take, drop, length-drop, take-append-drop}
use lib.Seq.{drop-cons, take-suc, get_or-drop, length-take-le, drop-drop}
use lib.Dec.{lit<}
use Rattle.crc.specs.Crc.{divisor, taken_off, crc_bit, crc_bits, crc_octet, crc_over}
use Rattle.crc.specs.Words.{crc_zeros, word, word_at}
use Rattle.crc.proofs.Xor.{xor-last, xor-twice}

-- ---- one bit, and any number of them

taken_off-xor : (x y p q : ℕ) → x < 2 → y < 2 → taken_off (bit_xor x y) (bit_xor p q) ≡ bit_xor (taken_off x p) (taken_off y q)
taken_off-xor zero zero p q hx hy = refl
taken_off-xor zero (suc y) p q hx hy = xor_assoc p q divisor
taken_off-xor (suc zero) zero p q hx hy = xor-last p q divisor
taken_off-xor (suc zero) (suc zero) p q hx hy =
    ap (λ (x : ℕ). bit_xor x q) (sym (xor-twice p divisor)) ∙ xor-last (bit_xor p divisor) divisor q ∙ xor_assoc (bit_xor p divisor) q divisor
taken_off-xor (suc zero) (suc (suc y)) p q hx hy = omega arith
taken_off-xor (suc (suc x)) y p q hx hy = omega arith

bit-xor : (a b : ℕ) → crc_bit (bit_xor a b) ≡ bit_xor (crc_bit a) (crc_bit b)
bit-xor a b = ap₂ taken_off (xor_mod a b 1) (xor_shr a b 1) ∙ taken_off-xor (a % 2) (b % 2) (a / 2) (b / 2) (omega arith) (omega arith)

pub bits-xor : (n a b : ℕ) → crc_bits n (bit_xor a b) ≡ bit_xor (crc_bits n a) (crc_bits n b)
bits-xor zero a b = refl
bits-xor (suc n) a b = ap (crc_bits n) (bit-xor a b) ∙ bits-xor n (crc_bit a) (crc_bit b)

pub bits-add : (m n r : ℕ) → crc_bits (m + n) r ≡ crc_bits n (crc_bits m r)
bits-add zero n r = ap (λ (k : ℕ). crc_bits k r) (zero-add n)
bits-add (suc m) n r = ap (λ (k : ℕ). crc_bits k r) (suc-add m n) ∙ bits-add m n (crc_bit r)

pub bits-zero : (n : ℕ) → crc_bits n 0 ≡ 0
bits-zero zero = refl
bits-zero (suc n) = bits-zero n

-- bits that are 0 leave no trace
bit_even : (x : ℕ) → crc_bit (x * 2) ≡ x
bit_even x = ap₂ taken_off (mul-mod_left x 2) (mul-div_cancel x (zero-lt-suc 1))

pub bits_shifted : (n x : ℕ) → crc_bits n (x * 2 ^ n) ≡ x
bits_shifted zero x = mul-one x
bits_shifted (suc n) x =
    ap (λ (y : ℕ). crc_bits n (crc_bit y)) (ap (λ (y : ℕ). x * y) (pow-suc 2 n) ∙ sym (mul_assoc x (2 ^ n) 2))
    ∙ ap (crc_bits n) (bit_even (x * 2 ^ n)) ∙ bits_shifted n x

-- a number of n bits above a register leaves a register
taken_off-lt : (k b r : ℕ) → r < 2 ^ (k + 32) → taken_off b r < 2 ^ (k + 32)
taken_off-lt k zero r h = h
taken_off-lt k (suc b) r h =
    let m : 32 ≤ k + 32 = omega arith in xor_lt (k + 32) r divisor h (lt_of_lt_of_le (lit< tt) (pow_mono m))

pub bits-lt : (n x : ℕ) → x < 2 ^ (n + 32) → crc_bits n x < 0x1_0000_0000
bits-lt zero x h = h
bits-lt (suc n) x h =
    bits-lt n (crc_bit x) (taken_off-lt n (x % 2) (x / 2)
    ((div-lt_iff_lt-mul (lit< tt)).1 (subst (λ (y : ℕ). x < y) (ap (λ (k : ℕ). 2 ^ k) (suc-add n 32) ∙ pow-suc 2 (n + 32)) h)))

-- ONE LAW FOR EVERY TABLE
pub slice : (m n x : ℕ) → crc_bits (m + n) x ≡ bit_xor (crc_bits (m + n) (x % 2 ^ m)) (crc_bits n (x / 2 ^ m))
slice m n x =
    let parts : x ≡ bit_xor (x % 2 ^ m) (x / 2 ^ m * 2 ^ m) =
    sym (div-add-mod' x (2 ^ m)) ∙ sym (xor_shifted (x / 2 ^ m) m (x % 2 ^ m) (mod-lt x (pow_pos m))) ∙ xor_comm (x / 2 ^ m * 2 ^ m) (x % 2 ^ m) in
    ap (crc_bits (m + n)) parts
    ∙ bits-xor (m + n) (x % 2 ^ m) (x / 2 ^ m * 2 ^ m)
    ∙ ap (bit_xor (crc_bits (m + n) (x % 2 ^ m))) (bits-add m n (x / 2 ^ m * 2 ^ m) ∙ ap (crc_bits n) (bits_shifted m (x / 2 ^ m)))

-- ---- octets

pub zeros-xor : (n a b : ℕ) → crc_zeros n (bit_xor a b) ≡ bit_xor (crc_zeros n a) (crc_zeros n b)
unfolding crc_zeros
zeros-xor n a b = bits-xor (n * 8) a b

pub zeros-add : (m n r : ℕ) → crc_zeros (m + n) r ≡ crc_zeros n (crc_zeros m r)
unfolding crc_zeros
zeros-add m n r =
    let e : (m + n) * 8 ≡ m * 8 + n * 8 = omega arith in ap (λ (k : ℕ). crc_bits k r) e ∙ bits-add (m * 8) (n * 8) r

-- no octets
pub none : (r : ℕ) → r ≡ crc_zeros 0 r
unfolding crc_zeros
none r = refl

-- octets that are 0 leave no trace
zeros_gone : (m x : ℕ) → crc_zeros m (x * 2 ^ (m * 8)) ≡ x
unfolding crc_zeros
zeros_gone m x = bits_shifted (m * 8) x

pub zeros_shifted : (m n x : ℕ) → crc_zeros (m + n) (x * 2 ^ (m * 8)) ≡ crc_zeros n x
zeros_shifted m n x = zeros-add m n (x * 2 ^ (m * 8)) ∙ ap (crc_zeros n) (zeros_gone m x)

-- the lowest octet by a table of 256, and the rest with one octet fewer to go
pub over_slice : (n x : ℕ) → crc_zeros (suc n) x ≡ bit_xor (crc_zeros (suc n) (x % 256)) (crc_zeros n (x / 256))
unfolding crc_zeros
over_slice n x =
    let e : suc n * 8 ≡ 8 + n * 8 = omega arith in
    ap (λ (k : ℕ). crc_bits k x) e ∙ slice 8 (n * 8) x ∙ ap (λ (k : ℕ). bit_xor (crc_bits k (x % 256)) (crc_bits (n * 8) (x / 256))) (sym e)

octet-zeros : (r o : ℕ) → crc_octet r o ≡ crc_zeros 1 (bit_xor r o)
unfolding crc_octet crc_zeros
octet-zeros r o = refl

-- a low octet, and the rest above it
low_octet : (o x : ℕ) → o < 256 → bit_xor o (x * 256) ≡ o + x * 256
low_octet o x h = xor_comm o (x * 256) ∙ xor_shifted x 8 o h ∙ add_comm (x * 256) o

-- ONE LAW FOR EVERY LENGTH: a list of octets at once
pub over_word : (r : ℕ) (s : List ℕ) → ((k : ℕ) → get_or s k 0 < 256) → crc_over r s ≡ crc_zeros (length s) (bit_xor r (word s))
over_word r [] h = sym (xor_zero_r r) ∙ none (bit_xor r 0)
over_word r (o ∷ s) h =
    over_word (crc_octet r o) s (λ k. h (suc k))
    ∙ ap₂ (λ (x y : ℕ). crc_zeros (length s) (bit_xor x y)) (octet-zeros r o) (sym (zeros_gone 1 (word s)))
    ∙ ap (crc_zeros (length s)) (sym (zeros-xor 1 (bit_xor r o) (word s * 256)))
    ∙ sym (zeros-add 1 (length s) (bit_xor (bit_xor r o) (word s * 256)))
    ∙ ap₂ crc_zeros (add_comm 1 (length s) ∙ add-one (length s)) (xor_assoc r o (word s * 256) ∙ ap (bit_xor r) (low_octet o (word s) (h 0)))

pub over-append : (r : ℕ) (s t : List ℕ) → crc_over r (s ++ t) ≡ crc_over (crc_over r s) t
over-append r [] t = refl
over-append r (o ∷ s) t = over-append (crc_octet r o) s t

-- ---- in the form of the code

-- one octet behind the others
pub word-last : (s : List ℕ) (o : ℕ) → word (s ++ o ∷ []) ≡ word s + o * 256 ^ length s
word-last [] o = omega arith
word-last (a ∷ s) o =
    ap (λ (x : ℕ). a + x * 256) (word-last s o)
    ∙ (let e : o * 256 ^ suc (length s) ≡ o * 256 ^ length s * 256 = ap (λ (x : ℕ). o * x) (pow-suc 256 (length s)) ∙ sym (mul_assoc o (256 ^ length s) 256)
    in omega arith)

word-at : (n : ℕ) (s : List ℕ) (i : ℕ) → i + n < length s → word (take (suc n) (drop i s)) ≡ word_at n s i
word-at zero s i h =
    let k : i < length s = omega arith in rw (drop-cons s i 0) (omega arith)
word-at (suc n) s i h =
    ap word (take-suc (drop i s) (suc n) 0 (simp length-drop (omega arith)))
    ∙ word-last (take (suc n) (drop i s)) (get_or (drop i s) (suc n) 0)
    ∙ ap₂ (λ (x y : ℕ). x + y) (word-at n s i (omega arith))
    (ap₂ (λ (x y : ℕ). x * 256 ^ y) (get_or-drop i s (suc n) 0) (length-take-le (suc n) (drop i s) (simp length-drop (omega arith))))

-- ---- a loop's turn: what is left of the list has the same end, from the register after the turn

-- the first n of octets are octets
pub bytes_take : (n : ℕ) (s : List ℕ) → ((k : ℕ) → get_or s k 0 < 256) → (k : ℕ) → get_or (take n s) k 0 < 256
bytes_take zero s h k = lit< tt
bytes_take (suc n) [] h k = lit< tt
bytes_take (suc n) (x ∷ s) h zero = h 0
bytes_take (suc n) (x ∷ s) h (suc k) = bytes_take n s (λ j. h (suc j)) k

-- n + 1 octets as one number
pub turn : (n : ℕ) (s : List ℕ) (i r : ℕ) → ((k : ℕ) → get_or s k 0 < 256) → i + suc n ≤ length s
    → crc_over (crc_zeros (suc n) (bit_xor r (word_at n s i))) (drop (i + suc n) s) ≡ crc_over r (drop i s)
turn n s i r bytes fits =
    let t = take (suc n) (drop i s) in
    let long : length t ≡ suc n = length-take-le (suc n) (drop i s) (simp length-drop (omega arith)) in
    sym (ap (crc_over r) (sym (take-append-drop (suc n) (drop i s)))
    ∙ over-append r t (drop (suc n) (drop i s))
    ∙ ap₂ crc_over
    (over_word r t (bytes_take (suc n) (drop i s) (λ k. rw get_or-drop (bytes (i + k))))
    ∙ ap₂ (λ (m w : ℕ). crc_zeros m (bit_xor r w)) long (word-at n s i (omega arith)))
    (drop-drop (suc n) i s))

-- n + 1 octets as one number and m + 1 more as another: neither waits for the other
pub turn_two : (n m : ℕ) (s : List ℕ) (i r : ℕ) → ((k : ℕ) → get_or s k 0 < 256) → i + suc n + suc m ≤ length s
    → crc_over (bit_xor (crc_zeros (suc n + suc m) (bit_xor r (word_at n s i))) (crc_zeros (suc m) (word_at m s (i + suc n)))) (drop (i + suc n + suc m) s)
    ≡ crc_over r (drop i s)
turn_two n m s i r bytes fits =
    let x = bit_xor r (word_at n s i) in
    let y = word_at m s (i + suc n) in
    ap (λ (z : ℕ). crc_over z (drop (i + suc n + suc m) s))
    (ap (λ (z : ℕ). bit_xor z (crc_zeros (suc m) y)) (zeros-add (suc n) (suc m) x) ∙ sym (zeros-xor (suc m) (crc_zeros (suc n) x) y))
    ∙ turn m s (i + suc n) (crc_zeros (suc n) x) bytes fits
    ∙ turn n s i r bytes (omega arith)

-- one octet: by a table of 256, and the rest of the register moves down
pub turn_one : (s : List ℕ) (i r : ℕ) → i < length s
    → crc_over (bit_xor (crc_zeros 1 (bit_xor r (get_or s i 0) % 256)) (bit_xor r (get_or s i 0) / 256)) (drop (i + 1) s) ≡ crc_over r (drop i s)
turn_one s i r h =
    let x = bit_xor r (get_or s i 0) in
    rw (add-one, drop-cons s i 0)
    (ap (λ (y : ℕ). crc_over y (drop (suc i) s)) (ap (bit_xor (crc_zeros 1 (x % 256))) (none (x / 256)) ∙ sym (over_slice 0 x) ∙ sym (octet-zeros r (get_or s i 0))))
