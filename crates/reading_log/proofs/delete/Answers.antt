-- `log::delete` meets its contract: each way out is one of the laws of `deleting`. Assumes nothing.
use native.Mathlib.Omega.{arith}
use mathlib.Core.Path.{sym}
use Rattle.reading_log.proofs.Searches.{beyond_unused, slot_used, slot_unused}
use Rattle.reading_log.proofs.Calls.{bad_log_lem, left_bad, good_log, delete_bad, delete_unused, delete_used}
use Rattle.reading_log.proofs.delete.Goals as goal

pub returns-in_err-checked : goal.returns-in_err-checked
returns-in_err-checked c =
    rw (left_bad _ _ c.from_residual.ensures.1 c.in_err-checked.ensures.0) (sym (delete_bad _ _ (bad_log_lem _ c.in_err-checked.ensures.1)))

pub returns-then-log-k : goal.returns-then-log-k
returns-then-log-k c = sym (delete_unused _ _ (good_log _ c.in_ok-checked.ensures) (beyond_unused _ _ (omega (arith, c.in_ok-checked.ensures))))

pub returns-then-log-at-eq0 : goal.returns-then-log-at-eq0
returns-then-log-at-eq0 c = sym (delete_unused _ _ (good_log _ c.in_ok-checked.ensures) (slot_unused _ _ c.if-log-at-eq0.true))

pub returns : goal.returns
returns c = sym (delete_used _ _ (good_log _ c.in_ok-checked.ensures) (slot_used _ _ c.if-log-at-eq0.false))
