-- Internal: sixteen tables in one array, made once and lent. Of this file a caller sees `entries 4096`, which `make_tables` makes, and `Tables`, the
-- invariant of `Rows`: no caller has to look into them.
use Rattle.std.specs.Prelude.{◌≡◌, List, [], ◌∷◌, ◌++◌, ℕ, zero, suc, ◌+◌, ◌-◌, ◌/◌, ◌%◌, ◌<◌, get_or}
use Rattle.std.specs.Int.Bits.{bit_xor}
use Rattle.crc.specs.Words.{crc_zeros}

-- The entry at j. Its row is j / 256: row k has each octet as a register, after k + 1 octets that are 0
unfoldable pub entry_of : ℕ → ℕ
entry_of j = crc_zeros (suc (j / 256)) (j % 256)

-- the first n entries, in order
unfoldable pub entries : ℕ → List ℕ
entries zero = []
entries (suc n) = entries n ++ (entry_of n ∷ [])

-- the tables: 16 rows of 256 entries
abbrev pub Tables : List ℕ → Type 0
Tables t = t ≡ entries 4096

-- while they are made: every entry below n is right
abbrev pub Filled : ℕ → List ℕ → Type 0
Filled n t = (j : ℕ) → j < n → get_or t j 0 ≡ entry_of j

-- the n entries from i on follow from the one at i and those n before them
abbrev pub Doubled : ℕ → ℕ → Type 0
Doubled i n = (x : ℕ) → x < n → entry_of (i + x) ≡ bit_xor (entry_of (i + x - n)) (entry_of i)
