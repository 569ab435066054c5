-- `why_lines::put_destination` meets its contract: one write after the other. Assumes nothing.
use native.Mathlib.Omega.{arith}
use Rattle.splice.proofs.Laws.{◌⨾◌}
use Rattle.why_lines.specs.Whys.{reason_text}
use Rattle.why_lines.proofs.put_destination.Goals as goal

pub returns : goal.returns
unfolding reason_text
returns c =
    record { put = c.put-i.ensures ⨾ c.put_three-j.ensures.put ⨾ c.put_three.ensures.put; upper_bound = omega (arith, c.put-i.ensures.goes) }
