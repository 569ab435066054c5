-- `lines::put_last` meets its contract: four writes, one after the other. Assumes nothing.
use native.Mathlib.Omega.{arith}
use Rattle.printing.specs.Lines.{last_line}
use Rattle.splice.proofs.Laws.{◌⨾◌}
use Rattle.printing.proofs.put_last.Goals as goal

pub returns : goal.returns
unfolding last_line
returns c =
    let p = c.put-i.ensures in
    let q = c.put-k.ensures in
    record { put = p ⨾ c.put_followed-j.ensures.put ⨾ q ⨾ c.put_followed.ensures.put; upper_bound = omega (arith, p.goes, q.goes) }
