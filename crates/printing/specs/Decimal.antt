-- Document 01, "The printing program": "all decimal". A number as ASCII digits, the most significant first.
use Rattle.std.specs.Prelude.{ℕ, zero, suc, ◌+◌, ◌/◌, ◌%◌, true, false, List, [], ◌∷◌, ◌++◌, ltb}

-- the digit d, below 10
unfoldable pub digit : ℕ → ℕ
digit d = 48 + d

-- the digits of n, where `most` digits are enough
unfoldable pub decimal_in : ℕ → ℕ → List ℕ
decimal_in zero n = []
decimal_in (suc most) n = elim (ltb n 10) [ true ↦ digit n ∷ [] | false ↦ decimal_in most (n / 10) ++ (digit (n % 10) ∷ []) ]

-- the digits of n: 0 is one digit, and no number has more digits than n + 1
unfoldable pub decimal : ℕ → List ℕ
decimal n = decimal_in (n + 1) n
