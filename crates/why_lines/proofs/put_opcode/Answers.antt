-- `why_lines::put_opcode` meets its contract: one write after the other. Assumes nothing.
use native.Mathlib.Omega.{arith}
use Rattle.splice.proofs.Laws.{◌⨾◌}
use Rattle.why_lines.specs.Whys.{opcode_text}
use Rattle.why_lines.proofs.put_opcode.Goals as goal

pub returns : goal.returns
unfolding opcode_text
returns c =
    record { put = c.put_words16-i.ensures.put ⨾ c.put_octet.ensures; upper_bound = omega (arith, c.put_octet.ensures.goes) }
