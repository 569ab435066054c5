-- `lines::put_followed` meets its contract. A number of 64 bits has at most 20 digits. Assumes nothing.
use native.Mathlib.Omega.{arith}
use Rattle.printing.specs.Lines.{followed}
use Rattle.printing.proofs.Digits.{decimal_64}
use Rattle.splice.proofs.Laws.{◌⨾◌}
use borrow.Author.Rules.{rules}
use Rattle.printing.proofs.put_followed.Goals as goal

pub put_decimal-a-requires : goal.put_decimal-a-requires
put_decimal-a-requires c = omega (arith, decimal_64 c.args.n (search rules))

pub put_octet-requires : goal.put_octet-requires
put_octet-requires c = omega (arith, c.put_decimal-a.ensures.goes, decimal_64 c.args.n (search rules))

pub returns : goal.returns
unfolding followed
returns c =
    let p = c.put_decimal-a.ensures in
    let q = c.put_octet.ensures in
    record { put = p ⨾ q; upper_bound = omega (arith, p.goes, q.goes, decimal_64 c.args.n (search rules)) }
