-- Internal: what is carried on, as one number. No promise to a caller needs it.
use Rattle.std.specs.Prelude.{ℕ, ◌+◌, ◌*◌, ◌^◌}
use Rattle.std.specs.Int.Bits.{bit_xor}
use Rattle.sparse.specs.declared.Carry.{Carry}

-- words of 64 bits as one number, the first lowest
abbrev pub four : ℕ → ℕ → ℕ → ℕ → ℕ
four a b c d = ((d * 2 ^ 64 + c) * 2 ^ 64 + b) * 2 ^ 64 + a

abbrev pub five : ℕ → ℕ → ℕ → ℕ → ℕ → ℕ
five a b c d e = four b c d e * 2 ^ 64 + a

abbrev pub number : Carry → ℕ
number w = five w.a w.b w.c w.d w.e

-- a word that stands 145, 183, 211 and 300 bits further on, seen from the word behind it: 1 and these powers of x make a multiple of the divisor
abbrev pub spread : ℕ → ℕ
spread t = bit_xor (t * 2 ^ 81) (bit_xor (t * 2 ^ 119) (bit_xor (t * 2 ^ 147) (t * 2 ^ 236)))
