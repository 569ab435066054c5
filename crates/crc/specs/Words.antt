-- Internal: what the laws and the contracts of the fast functions cite: several octets as one number. No promise to a caller needs it.
use Rattle.std.specs.Prelude.{ℕ, zero, suc, ◌+◌, ◌*◌, ◌^◌, List, [], ◌∷◌, get_or}
use Rattle.crc.specs.Crc.{crc_bits}

-- the register after n octets that are 0
unfoldable pub crc_zeros : ℕ → ℕ → ℕ
crc_zeros n r = crc_bits (n * 8) r

-- octets as one number, the first lowest
abbrev pub word : List ℕ → ℕ
word [] = 0
word (o ∷ os) = o + word os * 256

-- the number of the octets of s at i to i + n, in the form of the code that loads them: `low_first` of the line, which this crate, on the ground floor
-- beside it, does not know
abbrev pub word_at : ℕ → List ℕ → ℕ → ℕ
word_at zero s i = get_or s i 0
word_at (suc n) s i = word_at n s i + get_or s (i + suc n) 0 * 256 ^ suc n
