-- `log::read_record` meets its contract: each way out is one of the laws of `record_read`. Assumes nothing.
use native.Mathlib.Omega.{arith}
use mathlib.Core.Path.{sym, ap, ◌∙◌}
use Rattle.std.specs.Prelude.{Ok}
use Rattle.reading_log.specs.Log.{record_of, is_used}
use Rattle.reading_log.proofs.Records.{octet-unused, octet-used}
use Rattle.reading_log.proofs.Searches.{beyond_unused, part_slot}
use Rattle.reading_log.proofs.Calls.{bad_log_lem, left_bad, good_log, read_bad, read-unused, read-used}
use Rattle.reading_log.proofs.read_record.Goals as goal

pub returns-in_err-checked : goal.returns-in_err-checked
returns-in_err-checked c =
    rw (left_bad _ _ c.from_residual.ensures.1 c.in_err-checked.ensures.0) (sym (read_bad _ _ (bad_log_lem _ c.in_err-checked.ensures.1)))

pub returns-then-log-k : goal.returns-then-log-k
returns-then-log-k c = sym (read-unused _ _ (good_log _ c.in_ok-checked.ensures) (beyond_unused _ _ (omega (arith, c.in_ok-checked.ensures))))

pub returns-then-s-eq0 : goal.returns-then-s-eq0
returns-then-s-eq0 c = sym (read-unused _ _ (good_log _ c.in_ok-checked.ensures) (ap is_used (sym (part_slot _ _)) ∙ octet-unused _ c.if-s-eq0.true))

pub returns : goal.returns
returns c =
    ap Ok (c.record_of.ensures ∙ ap record_of (part_slot _ _))
    ∙ sym (read-used _ _ (good_log _ c.in_ok-checked.ensures) (ap is_used (sym (part_slot _ _)) ∙ octet-used _ c.if-s-eq0.false))
