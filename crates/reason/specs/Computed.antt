-- Internal: for a case that antt computes, `unfolding computed` opens every definition of this crate and of those below. It says nothing itself.
use Rattle.reason.specs.Reasons.{right_ones, preamble_reason, received, long_reason, fcs_reason, length_reason, handed_reason, reason_for, reason_of, explain_start, explain_found, explain_checked, explained}
use Rattle.receive.specs.Computed as receive

unfoldable pub computed : Unit {0}
unfolding receive.computed right_ones preamble_reason received long_reason fcs_reason length_reason handed_reason reason_for reason_of explain_start explain_found explain_checked explained
computed = tt
