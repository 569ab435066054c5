-- `why_lines::put_handed` meets its contract: one write after the other. Assumes nothing.
use native.Mathlib.Omega.{arith}
use Rattle.splice.proofs.Laws.{◌⨾◌}
use Rattle.why_lines.specs.Whys.{reason_text}
use Rattle.why_lines.proofs.put_handed.Goals as goal

pub returns : goal.returns
unfolding reason_text
returns c =
    record { put = c.put_number-i.ensures.put ⨾ c.put_number-j.ensures.put ⨾ c.put_octet.ensures; upper_bound = omega (arith, c.put_octet.ensures.goes) }
