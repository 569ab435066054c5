-- `log::next_at` meets its contract: what is read of the next used record decides. Assumes nothing.
use native.Mathlib.Omega.{arith}
use mathlib.Core.Path.{sym}
use Rattle.reading_log.specs.Readers.{step_of, next_step}
use Rattle.reading_log.proofs.Calls.{read-inside}
use Rattle.reading_log.proofs.next_at.Goals as goal

pub overflow_add-result : goal.overflow_add-result
overflow_add-result c = let h = read-inside _ _ _ (sym c.in-Ok.ensures) in omega arith

pub returns-in-Err : goal.returns-in-Err
unfolding next_step step_of
returns-in-Err c = rw (← c.next_used-k.ensures, ← c.in-Err.ensures, step_of)

pub returns-in-Ok : goal.returns-in-Ok
unfolding next_step step_of
returns-in-Ok c = rw (← c.next_used-k.ensures, ← c.in-Ok.ensures, step_of)
