-- `size_lines::put_unit` meets its contract: one write after the other. Assumes nothing.
use native.Mathlib.Omega.{arith}
use Rattle.splice.proofs.Laws.{◌⨾◌}
use Rattle.size_lines.specs.Bars.{unit_line}
use Rattle.size_lines.proofs.put_unit.Goals as goal

pub returns : goal.returns
unfolding unit_line
returns c =
    let q = c.put_followed.ensures in
    let p = c.put-a.ensures in
    record { put = p ⨾ q.put; upper_bound = omega (arith, p.goes) }
