-- Octets, fields and FCS values as hexadecimal digits of a fixed width, in capital letters.
use Rattle.std.specs.Prelude.{ℕ, ◌+◌, ◌/◌, ◌%◌, cond, List, [], ◌∷◌, ◌++◌, ltb}

-- the digit d, below 16: 0 to 9, A to F
unfoldable pub hex_digit : ℕ → ℕ
hex_digit d = cond (ltb d 10) (48 + d) (55 + d)

-- the two digits of an octet, the four of 16 bits, the eight of 32 bits
unfoldable pub hex_octet : ℕ → List ℕ
hex_octet v = hex_digit (v / 16) ∷ hex_digit (v % 16) ∷ []

unfoldable pub hex16 : ℕ → List ℕ
hex16 n = hex_octet (n / 256) ++ hex_octet (n % 256)

unfoldable pub hex32 : ℕ → List ℕ
hex32 n = hex16 (n / 0x1_0000) ++ hex16 (n % 0x1_0000)
