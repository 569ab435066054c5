-- Laws of a destination, octet by octet. Assumes nothing.
use Prim.Native.Nat.{ℕ, ◌≤◌, ◌<◌}
use mathlib.Core.Path.{◌≡◌}
use mathlib.Core.Bool.{true, false}
use mathlib.Core.List.{List}
use lib.ListN.{length, get_or}
use Rattle.line.specs.Octets.{same_octets}
use Rattle.line.proofs.Octets.{front-short, front_differs, front_same}
use Rattle.fields.specs.Fields.{destination}

-- ---- one address: in which order its octets are compared does not matter
module _ (f a : List ℕ) where
  pub to_short : length f < 6 → length a ≡ 6 → same_octets (destination f) a ≡ false
  unfolding destination
  to_short h n = front-short 6 f a h n

  pub to_differs : (k : ℕ) → k < 6 → (get_or f k 0 ≡ get_or a k 0 → ⊥) → same_octets (destination f) a ≡ false
  unfolding destination
  to_differs k h d = front_differs 6 f a k h d

  pub to_same : 6 ≤ length f → length a ≡ 6 → ((k : ℕ) → k < 6 → get_or f k 0 ≡ get_or a k 0) → same_octets (destination f) a ≡ true
  unfolding destination
  to_same h n s = front_same 6 f a h n s
