-- Internal: What an entry of the tables holds: two registers in one number. No promise to a caller needs it.
use Rattle.std.specs.Prelude.{ℕ, zero, suc, ◌*◌}
use Rattle.std.specs.Int.Bits.{bit_xor}
use Rattle.crc.specs.Crc.{crc_bits}

-- a register, and above it the register after k bits more
abbrev pub above : ℕ → ℕ → ℕ
above k r = bit_xor r (crc_bits k r * 0x1_0000_0000)

-- v after n bits, and above it after k bits more. By cases on v, so that it is stuck until v is a number: then the arm of a `match` computes it
abbrev pub both : ℕ → ℕ → ℕ → ℕ
both k n zero = 0
both k n (suc v) = above k (crc_bits n (suc v))
