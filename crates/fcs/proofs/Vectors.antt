-- The check value of the CRC-32 that is published: the definition computes to it.
use mathlib.Core.Path.{◌≡◌, refl}
use mathlib.Core.List.{[], ◌∷◌}
use Rattle.crc.specs.Crc.{crc_octet}
use Rattle.fcs.specs.Fcs.{fcs_of}

check_value : fcs_of (49 ∷ 50 ∷ 51 ∷ 52 ∷ 53 ∷ 54 ∷ 55 ∷ 56 ∷ 57 ∷ []) ≡ 0xCBF4_3926
unfolding crc_octet
check_value = refl
