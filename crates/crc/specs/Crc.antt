-- Document 01, "FCS": "IEEE 802.3 clause 3", bit by bit, "with the register kept bit-reversed", so that the bit that leaves is the lowest
-- and an octet comes in low bit first.
use Rattle.std.specs.Prelude.{ℕ, zero, suc, ◌/◌, ◌%◌, List, [], ◌∷◌}
use Rattle.std.specs.Int.Bits.{bit_xor}

-- "divisor 0x04C11DB7 … bit-reversed (0xEDB88320, shifted right)"
abbrev pub divisor : ℕ
divisor = 0xEDB8_8320

-- the divisor is taken off where the bit that left was 1
abbrev pub taken_off : ℕ → ℕ → ℕ
taken_off zero r = r
taken_off (suc _) r = bit_xor r divisor

-- the lowest bit leaves the register
abbrev pub crc_bit : ℕ → ℕ
crc_bit r = taken_off (r % 2) (r / 2)

-- n bits leave it
abbrev pub crc_bits : ℕ → ℕ → ℕ
crc_bits zero r = r
crc_bits (suc n) r = crc_bits n (crc_bit r)

-- "octets low bit first": an octet comes in at the low end, and eight bits leave
unfoldable pub crc_octet : ℕ → ℕ → ℕ
crc_octet r o = crc_bits 8 (bit_xor r o)

-- the register after the octets of a list, one after the other
abbrev pub crc_over : ℕ → List ℕ → ℕ
crc_over r [] = r
crc_over r (o ∷ os) = crc_over (crc_octet r o) os
