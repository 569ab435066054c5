-- Internal: for a case that antt computes, `unfolding computed` opens every definition of this crate and of those below. It says nothing itself.
use Rattle.plain.specs.Plain.{fresh_plain, grown, after_data, after_control, step_checked, step}
use Rattle.plain.specs.Fed.{fed, unless_quiet, tellings, telling_of, tellings_of, plain_end, plain_reading, plain_last, plain_readings}
use Rattle.kept.specs.Computed as kept

unfoldable pub computed : Unit {0}
unfolding kept.computed fresh_plain grown after_data after_control step_checked step fed unless_quiet tellings telling_of tellings_of plain_end plain_reading plain_last plain_readings
computed = tt
