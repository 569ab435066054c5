-- `largest_of` meets its contract: what was looked at is what stands before the index. Assumes nothing.
use mathlib.Core.Path.{◌≡◌}
use lib.ListN.{take}
use Rattle.size_lines.specs.Bars.{largest}
use Rattle.size_lines.proofs.largest_of.Given as goal

abbrev pub invariant-loop-n : goal.invariant-loop-n
invariant-loop-n l = l.most ≡ largest (take l.n-index l.fn.counts)
