-- Document 01, "FCS": "IEEE 802.3 clause 3". The division bit by bit is Rattle.crc.specs.Crc.
use Rattle.std.specs.Prelude.{ℕ, ◌-◌, ◌/◌, ◌%◌, List, [], ◌∷◌}
use Rattle.crc.specs.Crc.{crc_over}

-- "register of all ones at the start, … result complemented": the check as a number
abbrev pub fcs_of : List ℕ → ℕ
fcs_of os = 0xFFFF_FFFF - crc_over 0xFFFF_FFFF os

-- "low octet first": the four octets of a check
abbrev pub fcs_octets : ℕ → List ℕ
fcs_octets n = n % 256 ∷ n / 0x100 % 256 ∷ n / 0x1_0000 % 256 ∷ n / 0x100_0000 % 256 ∷ []

-- "the four FCS octets"
unfoldable pub fcs : List ℕ → List ℕ
fcs os = fcs_octets (fcs_of os)
