-- `sizes::add_counts` meets its contract: a turn is `count_next` of Laws. Assumes nothing.
use Rattle.std.proofs.Common.{◌≡◌, length}
use Rattle.sizes.specs.Sizes.{together}
use Rattle.sizes.specs.Steps.{together_from}
use Rattle.sizes.proofs.add_counts.Given as goal

abbrev pub invariant-loop-k : goal.invariant-loop-k
invariant-loop-k l = (length l.a ≡ 7) × (length l.b ≡ 7) × (together_from l.k l.a l.b ≡ together l.initial.a l.b)
