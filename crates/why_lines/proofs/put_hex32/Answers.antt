-- `why_lines::put_hex32` meets its contract: one write after the other. Assumes nothing.
use native.Mathlib.Omega.{arith}
use Rattle.splice.proofs.Laws.{◌⨾◌}
use Rattle.why_lines.specs.Hex.{hex32}
use Rattle.why_lines.proofs.put_hex32.Goals as goal

pub returns : goal.returns
unfolding hex32
returns c =
    record { put = c.put_hex16-a.ensures.put ⨾ c.put_hex16.ensures.put; value = omega arith }
