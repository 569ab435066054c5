-- `why_lines::put_three` meets its contract: one write after the other. Assumes nothing.
use native.Mathlib.Omega.{arith}
use Rattle.splice.proofs.Laws.{◌⨾◌}
use Rattle.why_lines.specs.Whys.{three_octets}
use Rattle.why_lines.proofs.put_three.Goals as goal

pub returns : goal.returns
unfolding three_octets
returns c =
    record { put = c.put_then-i.ensures.put ⨾ c.put_then-j.ensures.put ⨾ c.put_then.ensures.put; value = omega arith }
