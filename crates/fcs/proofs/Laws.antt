-- What callers cite of a check, and the last part of a list.
-- Assumes nothing.
use mathlib.Core.Path.{◌≡◌, refl}
use mathlib.Core.List.{List}
use Prim.Native.Nat.{ℕ, ◌-◌}
use native.Mathlib.Omega.{arith}
use lib.ListN.{length, take, drop, length-drop}
use lib.Seq.{take_all}
use Rattle.fcs.specs.Fcs.{fcs_of, fcs_octets, fcs}

-- what `octets(check(s))` gives is the check sequence
pub fcs-is : (s : List ℕ) → fcs_octets (fcs_of s) ≡ fcs s
unfolding fcs
fcs-is s = refl

pub fcs-four : (b : List ℕ) → length (fcs b) ≡ 4
unfolding fcs
fcs-four b = refl

pub last-part : (n : ℕ) (s : List ℕ) → take (length s - n) (drop n s) ≡ drop n s
last-part n s = take_all (length s - n) (drop n s) (simp length-drop (omega arith))
