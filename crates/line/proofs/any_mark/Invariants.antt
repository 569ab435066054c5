-- `line::any_mark` meets its contract. The invariant: with no flag up, each mark passed is 0. Assumes nothing.
use Prim.Native.Nat.{ℕ, ◌+◌, ◌<◌}
use mathlib.Core.Path.{◌≡◌}
use mathlib.Core.Bool.{false}
use Rattle.line.specs.Passed.{Has}
use Rattle.line.proofs.any_mark.Given as goal

abbrev pub invariant-loop-k : goal.invariant-loop-k
invariant-loop-k l = l.any ≡ false → (j : ℕ) → j < l.k → Has l.marks 0 (l.at + j)
