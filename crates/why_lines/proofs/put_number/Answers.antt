-- `why_lines::put_number` meets its contract: a number of 64 bits has at most 20 digits. Assumes nothing.
use native.Mathlib.Omega.{arith}
use Rattle.splice.proofs.Laws.{◌⨾◌}
use Rattle.printing.proofs.Digits.{decimal_64}
use Rattle.why_lines.specs.Whys.{with_number}
use borrow.Author.Rules.{rules}
use Rattle.why_lines.proofs.put_number.Goals as goal

pub put_decimal-requires : goal.put_decimal-requires
put_decimal-requires c =
    omega (arith, c.put-a.ensures.goes, decimal_64 c.args.n (search rules))

pub returns : goal.returns
unfolding with_number
returns c =
    record {
      put = c.put-a.ensures ⨾ c.put_decimal.ensures;
      upper_bound = omega (arith, c.put-a.ensures.goes, c.put_decimal.ensures.goes, decimal_64 c.args.n (search rules));
    }
