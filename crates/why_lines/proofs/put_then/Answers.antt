-- `why_lines::put_then` meets its contract: one write after the other. Assumes nothing.
use native.Mathlib.Omega.{arith}
use Rattle.splice.proofs.Laws.{◌⨾◌}
use Rattle.why_lines.specs.Whys.{hex_then}
use Rattle.why_lines.proofs.put_then.Goals as goal

pub returns : goal.returns
unfolding hex_then
returns c =
    record { put = c.put_hex-a.ensures.put ⨾ c.put_octet.ensures; value = omega (arith, c.put_octet.ensures.goes) }
