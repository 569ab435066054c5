-- The entries of the lent tables, and a number of octets by as many tables.
-- Assumes nothing.
use mathlib.Core.Path.{◌≡◌, refl, sym, ap, ap₂, ◌∙◌}
use mathlib.Core.Logic.{◌⊎◌, inl, inr, ⊎_elim}
use mathlib.Core.List.{List, [], ◌∷◌, ◌++◌}
use Prim.Native.Nat.{ℕ, zero, suc, ◌+◌, ◌-◌, ◌*◌, ◌/◌, ◌%◌, ◌^◌, ◌≤◌, ◌<◌, zero-le, suc-le-suc}
use native.Mathlib.Nat.{div-eq_of_lt, one-mul}
use native.Mathlib.Numerals.{add-one}
use native.Mathlib.Omega.{arith}
use borrow.Author.Count.{below_more}
use lib.Bits.{bit_xor, xor_comm, xor_shifted}
use lib.Pow.{pow_mono, shr-shr}
use lib.ListN.{length, get_or, set, length-append, get_or-append}
use lib.Seq.{get_or-set_same, get_or-set_other, get_or_at, ext_get_or}
use Rattle.crc.specs.Words.{crc_zeros}
use Rattle.crc.proofs.Linear.{bits-zero, none, zeros-add, zeros-xor, over_slice}
use Rattle.fcs.specs.Lent.{entry_of, entries, Tables, Filled, Doubled}

-- ---- the entries

-- one more entry is filled
pub fill_more : (t : List ℕ) (i v : ℕ) → i < length t → v ≡ entry_of i → Filled i t → Filled (i + 1) (set t i v)
fill_more t i v h e below =
    below_more (λ (j : ℕ). get_or (set t i v) j 0 ≡ entry_of j) i
    (λ j l. get_or-set_other t i j v 0 (λ p. omega arith) ∙ below j l) (get_or-set_same t i v 0 h ∙ e)

-- all n of them: an array of that length with every entry right is the one
entries-length : (n : ℕ) → length (entries n) ≡ n
unfolding entries
entries-length zero = refl
entries-length (suc n) = let e = entries-length n in rw length-append (omega arith)

pub entries-filled : (n : ℕ) → Filled n (entries n)
unfolding entries
entries-filled zero j h = absurd (omega arith)
entries-filled (suc n) j h =
    let e = entries-length n in
    below_more (λ (j : ℕ). get_or (entries n ++ (entry_of n ∷ [])) j 0 ≡ entry_of j) n
    (λ j l. get_or-append (entries n) (entry_of n ∷ []) 0 j (omega arith) ∙ entries-filled n j l)
    (get_or_at (entries n) (entry_of n) [] 0 n e) j (omega arith)

pub entries_only : (n : ℕ) (t : List ℕ) → length t ≡ n → Filled n t → t ≡ entries n
entries_only n t e f =
    ext_get_or 0 t (entries n) (e ∙ sym (entries-length n)) (λ i h. f i (omega arith) ∙ sym (entries-filled n i (omega arith)))

pub tables_length : {t : List ℕ} → Tables t → length t ≡ 4096
tables_length e = ap length e ∙ entries-length 4096

-- the row and the octet of an entry
pub entry_at : (k x : ℕ) → entry_of (k * 256 + x % 256) ≡ crc_zeros (k + 1) (x % 256)
unfolding entry_of
entry_at k x =
    let p : suc ((k * 256 + x % 256) / 256) ≡ k + 1 = omega arith in
    let q : (k * 256 + x % 256) % 256 ≡ x % 256 = omega arith in
    ap₂ crc_zeros p q

pub entry_first : (i : ℕ) → i < 256 → crc_zeros 1 i ≡ entry_of i
unfolding entry_of
entry_first i h =
    let p : 0 ≡ i / 256 = omega arith in
    let q : i ≡ i % 256 = omega arith in
    ap₂ (λ (k x : ℕ). crc_zeros (suc k) x) p q

next_row : (i : ℕ) → 256 ≤ i → crc_zeros 1 (entry_of (i - 256)) ≡ entry_of i
unfolding entry_of
next_row i h =
    sym (zeros-add (suc ((i - 256) / 256)) 1 ((i - 256) % 256))
    ∙ (let p : suc ((i - 256) / 256) + 1 ≡ suc (i / 256) = omega arith in
    let q : (i - 256) % 256 ≡ i % 256 = omega arith in
    ap₂ crc_zeros p q)

-- an entry is the step of the one a row before, by the first row
pub entry_next : (i x : ℕ) → 256 ≤ i → x ≡ entry_of (i - 256) → bit_xor (entry_of (x % 256)) (x / 256) ≡ entry_of i
entry_next i x h e =
    ap₂ bit_xor (sym (entry_first (x % 256) (omega arith))) (none (x / 256))
    ∙ sym (over_slice 0 x) ∙ ap (crc_zeros 1) e ∙ next_row i h

-- an octet at which the row is known, and a lower one: the entry of both
pub doubled : (k j : ℕ) → j ≤ 7 → Doubled (k * 256 + 2 ^ j) (2 ^ j)
unfolding entry_of
doubled k j l x h =
    let p = 2 ^ j in
    let most : p ≤ 128 = pow_mono l in
    let quotient : (k * 256 + p + x) / 256 ≡ k = omega arith in
    let octet : (k * 256 + p + x) % 256 ≡ p + x = omega arith in
    let below : (k * 256 + p + x - p) / 256 ≡ k = omega arith in
    let under : (k * 256 + p + x - p) % 256 ≡ x = omega arith in
    let same : (k * 256 + p) / 256 ≡ k = omega arith in
    let power : (k * 256 + p) % 256 ≡ p = omega arith in
    let sum : p + x ≡ bit_xor x p =
    sym (ap (λ (y : ℕ). y + x) (one-mul p)) ∙ sym (xor_shifted 1 j x h) ∙ ap (λ (y : ℕ). bit_xor y x) (one-mul p) ∙ xor_comm p x in
    ap₂ (λ (a b : ℕ). crc_zeros (suc a) b) quotient (octet ∙ sum) ∙ zeros-xor (suc k) x p
    ∙ sym (ap₂ bit_xor (ap₂ (λ (a b : ℕ). crc_zeros (suc a) b) below under) (ap₂ (λ (a b : ℕ). crc_zeros (suc a) b) same power))

up_to : (a b : ℕ) → (a ≤ b) ⊎ (suc b ≤ a)
up_to zero b = inl zero-le
up_to (suc a) zero = inr (suc-le-suc zero-le)
up_to (suc a) (suc b) = ⊎_elim (λ p. inl (suc-le-suc p)) (λ p. inr (suc-le-suc p)) (up_to a b)

-- a power of two that is below 256
pub exponent : (j : ℕ) → 2 ^ j < 256 → j ≤ 7
exponent j h = ⊎_elim (λ (l : j ≤ 7). l) (λ (l : 8 ≤ j). let m : 256 ≤ 2 ^ j = pow_mono l in omega arith) (up_to j 7)

-- ---- a number of octets by tables, the highest octet first

-- no octet yet
pub folded_none : (n x k : ℕ) → x < 2 ^ k → 0 ≡ crc_zeros n (x / 2 ^ k)
unfolding crc_zeros
folded_none n x k h = sym (ap (crc_zeros n) (div-eq_of_lt h) ∙ bits-zero (n * 8))

-- one more octet, the one at k, with n octets behind it
pub folded : (n k x r e : ℕ) → r ≡ crc_zeros n (x / 2 ^ (8 * k + 8)) → e ≡ crc_zeros (n + 1) (x / 2 ^ (8 * k) % 256)
    → bit_xor r e ≡ crc_zeros (n + 1) (x / 2 ^ (8 * k))
folded n k x r e p q =
    let y = x / 2 ^ (8 * k) in
    ap₂ bit_xor (p ∙ ap (crc_zeros n) (sym (shr-shr x (8 * k) 8))) q
    ∙ xor_comm (crc_zeros n (y / 256)) (crc_zeros (n + 1) (y % 256))
    ∙ rw add-one (sym (over_slice n y))
