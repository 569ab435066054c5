-- `flow::timers_after` meets its contract: each arm computes the definition at its variant, and the last at each of the others. Assumes nothing.
use Rattle.flow.specs.Timers.{quanta_at, timers_after}
use Rattle.flow.proofs.Stays.{sets_none, stays}
use Rattle.flow.proofs.timers_after.Goals as goal

pub returns-in-PauseTaken : goal.returns-in-PauseTaken
unfolding timers_after quanta_at
returns-in-PauseTaken c = rw (c.in-PauseTaken.is, c.set_all.ensures, c.high_first.ensures)

pub returns-in-PfcTaken : goal.returns-in-PfcTaken
unfolding timers_after
returns-in-PfcTaken c = rw c.in-PfcTaken.is c.set_named.ensures

pub returns-in_default : goal.returns-in_default
returns-in_default c = stays _ _ _ (sets_none _ c.in_default.not-PauseTaken c.in_default.not-PfcTaken)
