-- `size_lines::unit_of` meets its contract. Assumes nothing.
use native.Mathlib.Omega.{arith}
use Prim.Native.Nat.{ℕ, ◌+◌, ◌/◌}
use mathlib.Core.Path.{ap}
use Rattle.size_lines.specs.Bars.{unit}
use Rattle.size_lines.proofs.unit_of.Goals as goal

pub returns : goal.returns
unfolding unit
returns c = (ap (λ (n : ℕ). n / 40 + 1) c.largest_of-most.ensures, omega arith)
