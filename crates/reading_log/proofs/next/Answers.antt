-- `log::next` meets its contract: of `next_at` the contract only is known. Assumes nothing.
use mathlib.Core.Path.{ap}
use Rattle.reading_log.specs.declared.Step.{Step}
use Rattle.reading_log.specs.Readers.{handing, hand_out}
use Rattle.reading_log.proofs.next.Goals as goal

-- the promise, of the step that came back
pub returns : goal.returns
unfolding hand_out
returns c = ap (λ (s : Step). handing s.read (record { log = c.args.r.now.log; at = s.at })) c.next_at-s.ensures
