-- Internal: what the contract of one function speaks of, opened together where the check proves that function. It says nothing itself.
use Rattle.line.specs.Line.{is_data}
use Rattle.plain.specs.Plain.{after_data, after_control, step_checked, step}

unfoldable pub of_take_symbol : Unit {0}
unfolding step step_checked after_data after_control is_data
of_take_symbol = tt
