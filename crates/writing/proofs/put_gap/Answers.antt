-- `writing::put_gap` meets its contract: two writes, by `◌⨾◌`, with as many Idles as are asked for on each way. Assumes nothing.
use Prim.Native.Nat.{ℕ}
use mathlib.Core.Path.{◌≡◌}
use mathlib.Core.List.{List}
use lib.ListN.{replicate}
use Rattle.splice.specs.Written.{Put}
use Rattle.splice.proofs.Laws.{◌⨾◌}
use Rattle.writing.specs.Pieces.{gap_octets}
use Rattle.writing.proofs.put_gap.Goals as goal

-- as many, by the number that was asked for
as-asked : {l m : List ℕ} {i j : ℕ} (v n idles : ℕ) → idles ≡ n → Put l i (replicate n v) j m → Put l i (replicate idles v) j m
as-asked v n idles e p = rw e p

pub returns-then-idles-eq-PLAIN_IDLES : goal.returns-then-idles-eq-PLAIN_IDLES
unfolding gap_octets
returns-then-idles-eq-PLAIN_IDLES c = c.put-a.ensures ⨾ as-asked _ _ c.args.idles c.if-idles-eq-PLAIN_IDLES.true c.fill.ensures

pub returns : goal.returns
unfolding gap_octets
returns c = search (◌⨾◌)
