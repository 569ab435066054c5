-- `log::next_used` meets its contract. The first used record from k on is the first from the start on: `next_turn`. Assumes nothing.
use Prim.Native.Nat.{◌≤◌, max}
use mathlib.Core.Path.{◌≡◌}
use Rattle.reading_log.specs.Readers.{next_used}
use Rattle.reading_log.proofs.next_used.Given as goal

abbrev pub invariant-loop-k : goal.invariant-loop-k
invariant-loop-k l = (l.k ≤ max l.at l.records) × (next_used l.log l.at ≡ next_used l.log l.k)
