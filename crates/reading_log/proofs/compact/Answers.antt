-- `log::compact` meets its contract: each way out is one of the laws of `compacting`. Assumes nothing.
use mathlib.Core.Path.{sym, ap, ◌∙◌}
use Rattle.std.specs.Prelude.{Ok}
use Rattle.reading_log.specs.Log.{logging}
use Rattle.reading_log.proofs.Calls.{bad_log_lem, left_bad, good_log, compact_bad, compact_good}
use Rattle.reading_log.proofs.compact.Goals as goal

pub returns-in_err-checked : goal.returns-in_err-checked
returns-in_err-checked c =
    rw (left_bad _ _ c.from_residual.ensures.1 c.in_err-checked.ensures.0) (sym (compact_bad _ (bad_log_lem _ c.in_err-checked.ensures.1)))

pub returns : goal.returns
returns c = ap (logging (Ok tt)) c.compact_front.ensures.0 ∙ sym (compact_good _ (good_log _ c.in_ok-checked.ensures))
