-- `reason::right_ones` meets its contract: how many are right, k of which are passed, stays the same. Assumes nothing.
use mathlib.Core.Path.{◌≡◌}
use Rattle.line.specs.Line.{preamble}
use Rattle.reason.specs.Reasons.{right_ones}
use Rattle.reason.proofs.Laws.{right_from}
use Rattle.reason.proofs.right_ones.Given as goal

abbrev pub invariant-loop-k : goal.invariant-loop-k
invariant-loop-k l = (l.right ≡ preamble) × (right_ones l.run preamble ≡ right_from l.run preamble l.k)
