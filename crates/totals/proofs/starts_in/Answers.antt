-- `totals::starts_in` meets its contract: the Starts of a stretch are those of its two parts together. Assumes nothing.
use Prim.Native.Nat.{◌+◌}
use native.Mathlib.Omega.{arith}
use Rattle.line.specs.Line.{capture}
use Rattle.totals.proofs.Laws.{in_two}
use Rattle.totals.proofs.starts_in.Goals as goal

pub returns : goal.returns
returns c =
    let a = c.args in
    let t = in_two (capture a.octets.now a.marks.now) a.from (a.from + 128) a.to (omega arith) (omega arith) in
    omega arith
