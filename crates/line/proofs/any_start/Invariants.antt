-- `line::any_start` meets its contract. The invariant: with no flag up, no symbol passed is a Start. Assumes nothing.
use Prim.Native.Nat.{ℕ, ◌+◌, ◌<◌}
use mathlib.Core.Path.{◌≡◌}
use mathlib.Core.Bool.{false}
use Rattle.line.specs.Passed.{NoStart}
use Rattle.line.proofs.any_start.Given as goal

abbrev pub invariant-loop-j : goal.invariant-loop-j
invariant-loop-j l = l.any ≡ false → (k : ℕ) → k < l.j → NoStart l.octets l.marks (l.at + k)
