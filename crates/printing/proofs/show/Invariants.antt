-- `show` meets its contract: an octet after the other. Assumes nothing.
use Prim.Native.Nat.{◌+◌}
use mathlib.Core.Path.{◌≡◌}
use lib.ListN.{take}
use Rattle.printing.specs.Shown.{Shown}
use Rattle.printing.proofs.show.Given as goal

abbrev pub invariant-loop-v : goal.invariant-loop-v
invariant-loop-v l = (l.to ≡ l.at + l.v-index) × Shown l.from l.initial.out l.at (take l.v-index l.src) l.to l.out
