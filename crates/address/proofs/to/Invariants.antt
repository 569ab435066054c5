-- `address::to` meets its contract: the octets passed, from the last one on, are the same. Assumes nothing.
use Rattle.std.proofs.Common.{◌≡◌, ℕ, ◌≤◌, ◌<◌, get_or}
use Rattle.address.proofs.to.Given as goal

abbrev pub invariant-loop-k : goal.invariant-loop-k
invariant-loop-k l = (i : ℕ) → l.k ≤ i → i < 6 → get_or l.f i 0 ≡ get_or l.a.0 i 0
