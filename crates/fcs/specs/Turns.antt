-- Internal: what the contracts within cite: the register, and what is left of the octets, after a turn of a loop or after all its turns.
use Rattle.std.specs.Prelude.{◌≡◌, List, ℕ, ◌+◌, ◌-◌, ◌*◌, ◌%◌, ◌^◌, length, drop}
use Rattle.std.specs.Int.Bits.{bit_xor}
use Rattle.crc.specs.Crc.{crc_over}

-- r is the register after the n octets of s at i
abbrev pub Turned : ℕ → List ℕ → ℕ → ℕ → ℕ → Type 0
Turned n s i reg r = crc_over r (drop (i + n) s) ≡ crc_over reg (drop i s)

-- r is the register after all of s but its last octets, fewer than n
abbrev pub Blocks : ℕ → List ℕ → ℕ → ℕ → Type 0
Blocks n s reg r = crc_over r (drop (length s - length s % n) s) ≡ crc_over reg s

-- r is the register after the eight octets of s at i, when c is carried to them; h is what is carried further
abbrev pub Carried : List ℕ → ℕ → ℕ → ℕ → ℕ → Type 0
Carried s i reg c r = (h : ℕ) → crc_over (bit_xor r h) (drop (i + 8) s) ≡ crc_over (bit_xor reg (h * 2 ^ 64 + c)) (drop i s)
