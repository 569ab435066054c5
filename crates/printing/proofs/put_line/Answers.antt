-- `lines::put_line` meets its contract: four writes, one after the other. Assumes nothing.
use native.Mathlib.Omega.{arith}
use Rattle.printing.specs.Lines.{four_numbers}
use Rattle.splice.proofs.Laws.{◌⨾◌}
use Rattle.printing.proofs.put_line.Goals as goal

pub returns : goal.returns
unfolding four_numbers
returns c = record {
  put = c.put_followed-i.ensures.put
      ⨾ c.put_followed-j.ensures.put
      ⨾ c.put_followed-k.ensures.put
      ⨾ c.put_followed.ensures.put;
  upper_bound = omega arith;
}
