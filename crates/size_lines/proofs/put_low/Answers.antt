-- `size_lines::put_low` meets its contract: one line after the other. Assumes nothing.
use native.Mathlib.Omega.{arith}
use borrow.Author.Rules.{rules}
use Rattle.splice.proofs.Laws.{◌⨾◌}
use Rattle.size_lines.specs.Bars.{low_lines}
use Rattle.size_lines.proofs.put_low.Goals as goal

pub put_band-a-requires : goal.put_band-a-requires
put_band-a-requires c = (search rules, search rules, search rules)

pub put_band-b-requires : goal.put_band-b-requires
put_band-b-requires c = (search rules, search rules, search rules)

pub put_band-c-requires : goal.put_band-c-requires
put_band-c-requires c = (search rules, search rules, search rules)

pub put_band-requires : goal.put_band-requires
put_band-requires c = (search rules, search rules, search rules)

pub returns : goal.returns
unfolding low_lines
returns c =
    let p4 = c in
    let p3 = p4 in
    let p2 = p3 in
    let p1 = p2 in
    record { put = p1.put_band-a.ensures.put ⨾ p2.put_band-b.ensures.put ⨾ p3.put_band-c.ensures.put ⨾ p4.put_band.ensures.put; upper_bound = omega arith }
