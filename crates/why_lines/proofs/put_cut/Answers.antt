-- `why_lines::put_cut` meets its contract: one write after the other. Assumes nothing.
use native.Mathlib.Omega.{arith}
use Rattle.splice.proofs.Laws.{◌⨾◌}
use Rattle.why_lines.specs.Whys.{reason_text}
use Rattle.why_lines.proofs.put_cut.Goals as goal

pub returns : goal.returns
unfolding reason_text
returns c =
    record {
      put = c.put_number-i.ensures.put ⨾ c.put-j.ensures ⨾ c.put_hex-k.ensures.put ⨾ c.put_name.ensures.put;
      upper_bound = omega (arith, c.put-j.ensures.goes);
    }
