-- `size_lines::put_table` meets its contract: the low lines and the high ones. Assumes nothing.
use Prim.Native.Nat.{ℕ}
use native.Mathlib.Omega.{arith}
use mathlib.Core.Path.{ap}
use mathlib.Core.List.{◌++◌}
use borrow.Author.Rules.{rules}
use Rattle.splice.proofs.Laws.{◌⨾◌}
use Rattle.printing.proofs.Puts.{put_as}
use Rattle.size_lines.specs.Bars.{low_lines, high_lines, table_lines}
use Rattle.size_lines.proofs.put_table.Goals as goal

pub put_low-a-requires : goal.put_low-a-requires
put_low-a-requires c = (search rules, search rules)

pub put_high-requires : goal.put_high-requires
put_high-requires c = (search rules, search rules)

pub returns : goal.returns
unfolding table_lines
returns c =
    let p = c in
    let q = p in
    let u = q in
    let t = u.args.t in
    record { put = put_as (ap (λ (n : ℕ). low_lines t n ++ high_lines t n) u.unit_of-u.ensures.0) (q.put_low-a.ensures.put ⨾ p.put_high.ensures.put); upper_bound = omega arith }
