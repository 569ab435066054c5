-- Document 01, "The line": "Any other control octet, Sequence 0x9C included, is treated like Error." The theorems are proofs/LikeError.antt.
use Rattle.std.specs.Prelude.{ℕ, Bool, not, cond, ◌&&◌, ◌||◌, List, [], ◌∷◌, eqb}
use Rattle.line.specs.Line.{Symbol, is_control, idle, start, terminate}

-- "Idle 0x07, Start 0xFB, Terminate 0xFD, Error 0xFE": the fourth name
abbrev pub error : ℕ
error = 0xFE

-- "Any other control octet": none of Idle, Start and Terminate
unfoldable pub is_other : ℕ → Bool
is_other o = not (eqb o idle || eqb o start || eqb o terminate)

-- the octet that a symbol is treated like
unfoldable pub treated_like : Symbol → ℕ
treated_like x = cond (is_control x && is_other x.octet) error x.octet

-- the octets of a capture with every other control octet replaced by Error; octets beyond the marks, where there are more, as they stand
unfoldable pub like_error : List ℕ → List ℕ → List ℕ
like_error [] ms = []
like_error (o ∷ os) [] = o ∷ os
like_error (o ∷ os) (m ∷ ms) = treated_like (record { octet = o; mark = m }) ∷ like_error os ms
