-- `why_lines::put_why` meets its contract: one write after the other. Assumes nothing.
use native.Mathlib.Omega.{arith}
use Rattle.splice.proofs.Laws.{◌⨾◌}
use Rattle.why_lines.specs.Whys.{why_line}
use Rattle.why_lines.proofs.put_why.Goals as goal

pub returns : goal.returns
unfolding why_line
returns c =
    record { put = c.put_followed-i.ensures.put ⨾ c.put_reason.ensures.put; upper_bound = omega arith }
