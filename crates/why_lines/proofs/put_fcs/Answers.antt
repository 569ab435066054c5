-- `why_lines::put_fcs` meets its contract: one write after the other. Assumes nothing.
use native.Mathlib.Omega.{arith}
use Rattle.splice.proofs.Laws.{◌⨾◌}
use Rattle.why_lines.specs.Whys.{reason_text}
use Rattle.why_lines.proofs.put_fcs.Goals as goal

pub returns : goal.returns
unfolding reason_text
returns c =
    record { put = c.put_words32-i.ensures.put ⨾ c.put_words32-j.ensures.put ⨾ c.put_octet.ensures; upper_bound = omega (arith, c.put_octet.ensures.goes) }
