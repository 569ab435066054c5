-- Internal: for a case that antt computes, `unfolding computed` opens every definition of this crate and of those below. It says nothing itself.
use Rattle.outcome.specs.Outcomes.{cut, bad_preamble, frame_of, outcomes, outcome, check_made, judged}
use Rattle.outcome.specs.Plain.{opening_of, plain_outcome, plain_judged}
use Rattle.outcome.specs.Status.{bit, kind_bits, frame_bits, status_of, status}
use Rattle.frame.specs.Computed as frame
use Rattle.control.specs.Computed as control

unfoldable pub computed : Unit {0}
unfolding frame.computed control.computed cut bad_preamble frame_of outcomes outcome check_made judged opening_of plain_outcome plain_judged bit kind_bits frame_bits status_of status
computed = tt
