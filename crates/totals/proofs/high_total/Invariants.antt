-- `totals::high_total` meets its contract. The invariant: a total above 256 was met, or is among those left, exactly if there is one. Assumes nothing.
use mathlib.Core.Path.{◌≡◌}
use mathlib.Core.Bool.{◌||◌}
use lib.ListN.{drop}
use Rattle.totals.specs.Totals.{high_total}
use Rattle.totals.proofs.high_total.Given as goal

abbrev pub invariant-loop-n : goal.invariant-loop-n
invariant-loop-n l = (l.high || high_total (drop l.n-index l.totals)) ≡ high_total l.totals
