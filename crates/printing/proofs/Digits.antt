-- Laws of `decimal`: one digit, one digit more, and how many there are. Assumes nothing.
use Prim.Native.Nat.{ℕ, zero, suc, ◌+◌, ◌/◌, ◌%◌, ◌^◌, ◌≤◌, ◌<◌}
use mathlib.Core.Path.{◌≡◌, refl, sym, ap, ◌∙◌}
use mathlib.Core.Bool.{Bool, true, false}
use mathlib.Core.Logic.{◌⊎◌, inl, inr, ⊎_elim}
use mathlib.Core.List.{List, [], ◌∷◌, ◌++◌}
use native.Mathlib.Nat.{div-lt_iff_lt-mul, lt_of_lt_of_le, pow-succ'}
use native.Mathlib.Omega.{arith}
use native.Mathlib.Numerals.{add-one}
use lib.ListN.{length, length-append}
use lib.Dec.{ltb, lit≤}
use borrow.Author.Tests.{lt-ltb, le-ltb, ltb-true, ltb-false}
use Rattle.printing.specs.Decimal.{digit, decimal_in, decimal}

in_small : (most n : ℕ) → n < 10 → decimal_in (suc most) n ≡ digit n ∷ []
unfolding decimal_in
in_small most n h = rw (lt-ltb n 10 h, decimal_in)

in_more : (most n : ℕ) → 10 ≤ n → decimal_in (suc most) n ≡ decimal_in most (n / 10) ++ (digit (n % 10) ∷ [])
unfolding decimal_in
in_more most n h = rw (le-ltb n 10 h, decimal_in)

below_ten : (n : ℕ) (b : Bool) → ltb n 10 ≡ b → (n < 10) ⊎ (10 ≤ n)
below_ten n true e = inl (ltb-true n 10 e)
below_ten n false e = inr (ltb-false n 10 e)

-- every number of digits that is enough gives the same
enough : (f g n : ℕ) → n < f → n < g → decimal_in f n ≡ decimal_in g n
enough zero g n hf hg = absurd (omega arith)
enough (suc f) zero n hf hg = absurd (omega arith)
enough (suc f) (suc g) n hf hg =
    ⊎_elim
    (λ h. in_small f n h ∙ sym (in_small g n h))
    (λ h. in_more f n h ∙ ap (λ (l : List ℕ). l ++ (digit (n % 10) ∷ [])) (enough f g (n / 10) (omega arith) (omega arith)) ∙ sym (in_more g n h))
    (below_ten n (ltb n 10) refl)

pub decimal-small : (n : ℕ) → n < 10 → decimal n ≡ (48 + n) ∷ []
unfolding decimal digit
decimal-small n h = ap (λ (f : ℕ). decimal_in f n) (add-one n) ∙ in_small n n h

pub decimal_more : (n : ℕ) → 10 ≤ n → decimal n ≡ decimal (n / 10) ++ ((48 + n % 10) ∷ [])
unfolding decimal digit
decimal_more n h =
    ap (λ (f : ℕ). decimal_in f n) (add-one n)
    ∙ in_more n n h
    ∙ ap (λ (l : List ℕ). l ++ ((48 + n % 10) ∷ [])) (enough n (n / 10 + 1) (n / 10) (omega arith) (omega arith))

-- a number below 10 ^ (k + 1) has at most k + 1 digits
pub decimal-short : (k n : ℕ) → n < 10 ^ suc k → length (decimal n) ≤ suc k
decimal-short zero n h = rw (decimal-small n h) (omega arith)
decimal-short (suc k) n h =
    ⊎_elim
    (λ s. rw (decimal-small n s) (omega arith))
    (λ s. let t : length (decimal (n / 10)) ≤ suc k = decimal-short k (n / 10) ((div-lt_iff_lt-mul {k = 10} {x = n} {y = 10 ^ suc k} (omega arith)).1 (let e = pow-succ' 10 (suc k) in omega arith)) in
    rw (decimal_more n s, length-append) (omega arith))
    (below_ten n (ltb n 10) refl)

-- a number of 64 bits has at most 20
pub decimal_64 : (n : ℕ) → n < 2 ^ 64 → length (decimal n) ≤ 20
decimal_64 n h = decimal-short 19 n (lt_of_lt_of_le h (lit≤ tt))
