-- `size_lines::put_high` meets its contract: one line after the other. Assumes nothing.
use native.Mathlib.Omega.{arith}
use borrow.Author.Rules.{rules}
use Rattle.splice.proofs.Laws.{◌⨾◌}
use Rattle.size_lines.specs.Bars.{high_lines}
use Rattle.size_lines.proofs.put_high.Goals as goal

pub put_band-a-requires : goal.put_band-a-requires
put_band-a-requires c = (search rules, search rules, search rules)

pub put_band-b-requires : goal.put_band-b-requires
put_band-b-requires c = (search rules, search rules, search rules)

pub put_band-c-requires : goal.put_band-c-requires
put_band-c-requires c = (search rules, search rules, search rules)

pub returns : goal.returns
unfolding high_lines
returns c =
    let p = c in
    let p3 = p in
    let p2 = p3 in
    let p1 = p2 in
    record { put = p1.put_band-a.ensures.put ⨾ p2.put_band-b.ensures.put ⨾ p3.put_band-c.ensures.put ⨾ p.put_unit.ensures.put; upper_bound = omega arith }
