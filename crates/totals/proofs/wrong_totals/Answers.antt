-- `totals::wrong_totals` meets its contract: the length divided, rounded up, is the number of blocks. Assumes nothing.
use native.Mathlib.Omega.{arith}
use Prim.Native.Nat.{ℕ}
use mathlib.Core.Path.{◌≡◌, ap}
use mathlib.Core.Bool.{not}
use lib.ListN.{length}
use lib.Dec.{eqb}
use Rattle.totals.specs.Totals.{blocks, wrong_totals}
use Rattle.totals.proofs.wrong_totals.Goals as goal

pub returns : goal.returns
unfolding wrong_totals
returns c =
    let a = c.args in
    let same : c.div_ceil.result ≡ blocks (length a.octets.now) = omega arith in
    ap (λ (n : ℕ). not (eqb (length a.totals.now) n)) same
