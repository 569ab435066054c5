-- `why_lines::put_hex16` meets its contract: one write after the other. Assumes nothing.
use native.Mathlib.Omega.{arith}
use Rattle.splice.proofs.Laws.{◌⨾◌}
use Rattle.why_lines.specs.Hex.{hex16}
use Rattle.why_lines.proofs.put_hex16.Goals as goal

pub returns : goal.returns
unfolding hex16
returns c =
    record { put = c.put_hex-a.ensures.put ⨾ c.put_hex.ensures.put; value = omega arith }
