-- Octet strings, as every section of document 01 uses them: equality, numbers of several octets, a part.
use Rattle.std.specs.Prelude.{ℕ, zero, suc, ◌+◌, ◌-◌, ◌*◌, ◌/◌, ◌%◌, Bool, true, false, ◌&&◌, List, [], ◌∷◌, get_or, take, drop, eqb}

-- the same octets, "all six" of an address and as many of any other string
unfoldable pub same_octets : List ℕ → List ℕ → Bool
same_octets [] [] = true
same_octets [] (y ∷ ys) = false
same_octets (x ∷ xs) [] = false
same_octets (x ∷ xs) (y ∷ ys) = eqb x y && same_octets xs ys

-- "read high octet first": the number that stands in two octets from place `at` on
unfoldable pub high_first_at : List ℕ → ℕ → ℕ
high_first_at l at = get_or l at 0 * 256 + get_or l (at + 1) 0

-- a number as two octets, high octet first
unfoldable pub high_first : ℕ → List ℕ
high_first n = n / 256 % 256 ∷ n % 256 ∷ []

-- "low octet first": the number that stands in n octets from place `at` on
unfoldable pub low_first : List ℕ → ℕ → ℕ → ℕ
low_first l at zero = 0
low_first l at (suc n) = low_first l (at + 1) n * 256 + get_or l at 0

-- the octets from place `from` up to place `to`
unfoldable pub between : List ℕ → ℕ → ℕ → List ℕ
between l from to = take (to - from) (drop from l)
