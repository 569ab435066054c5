-- Internal: octets taken off in a window, and what its functions write. No promise to a caller needs it.
use Rattle.std.specs.Prelude.{◌≡◌, List, ℕ, ◌+◌, ◌≤◌, ◌<◌, get_or, take, drop}
use Rattle.std.specs.Int.Bits.{bit_xor}
use Rattle.crc.specs.Crc.{crc_over}
use Rattle.crc.specs.Words.{word}

-- what comes out of the octet of s at `at + i`, when what came out before it stands in w up to i + 300
abbrev pub out_of : List ℕ → List ℕ → ℕ → ℕ → ℕ
out_of w s at i =
    bit_xor (bit_xor (bit_xor (bit_xor (get_or s (at + i) 0) (get_or w (i + 155) 0)) (get_or w (i + 117) 0)) (get_or w (i + 89) 0)) (get_or w i 0)

-- the 300 octets of w from i on
abbrev pub came : List ℕ → ℕ → List ℕ
came w i = take 300 (drop i w)

-- what the 300 octets that came out last are carried on as to the octets behind them: each stands 145, 183, 211 and 300 octets further on
abbrev pub carried_on : List ℕ → ℕ
carried_on h = bit_xor (word (drop 155 h)) (bit_xor (word (drop 117 h)) (bit_xor (word (drop 89 h)) (word h)))

-- n octets of s at `at` are taken off: from what is carried on, the octets behind them leave what they left with them
abbrev pub Cut : ℕ → ℕ → List ℕ → List ℕ → List ℕ → Type 0
Cut n at s before w = crc_over (carried_on (came w n)) (drop (at + n) s) ≡ crc_over (carried_on (take 300 before)) (drop at s)

-- n octets from 960 on are moved to the front; behind where they stood nothing is changed
abbrev pub Moved : ℕ → List ℕ → List ℕ → Type 0
Moved n before w = (take n w ≡ take n (drop 960 before)) × ((j : ℕ) → n + 960 ≤ j → get_or w j 0 ≡ get_or before j 0)

-- n octets from `at` on are 0; before them nothing is changed
abbrev pub Cleared : ℕ → ℕ → List ℕ → List ℕ → Type 0
Cleared n at before w = ((i : ℕ) → i < n → get_or w (at + i) 0 ≡ 0) × ((j : ℕ) → j < at → get_or w j 0 ≡ get_or before j 0)

-- what comes out of n octets of s, from `at + m` on, stands in front; behind it nothing is changed
abbrev pub Ended : ℕ → ℕ → ℕ → List ℕ → List ℕ → List ℕ → Type 0
Ended n at m s before w = ((i : ℕ) → i < n → get_or w i 0 ≡ out_of before s at (m + i)) × ((j : ℕ) → n ≤ j → get_or w j 0 ≡ get_or before j 0)
