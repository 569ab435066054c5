-- `totals::recount` meets its contract. The invariant: the blocks up to k are counted anew, and no other (`turn` of Laws). Assumes nothing.
use mathlib.Core.Path.{◌≡◌}
use Prim.Native.Nat.{◌*◌}
use Rattle.line.specs.Limits.{block_size}
use Rattle.line.specs.Line.{capture}
use Rattle.totals.specs.Totals.{recounted}
use Rattle.totals.proofs.recount.Given as goal

abbrev pub invariant-loop-k : goal.invariant-loop-k
invariant-loop-k l = l.totals ≡ recounted (capture l.octets l.marks) l.from (block_size * l.k) l.initial.totals
