-- `why_lines::put_words32` meets its contract: one write after the other. Assumes nothing.
use native.Mathlib.Omega.{arith}
use Rattle.splice.proofs.Laws.{◌⨾◌}
use Rattle.why_lines.specs.Whys.{with_hex32}
use Rattle.why_lines.proofs.put_words32.Goals as goal

pub returns : goal.returns
unfolding with_hex32
returns c =
    record { put = c.put-a.ensures ⨾ c.put_hex32.ensures.put; value = omega (arith, c.put-a.ensures.goes) }
