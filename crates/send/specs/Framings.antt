-- Internal: what the checks of a frame promise the calls that send it: a table's answer, with the gap that was reckoned for it.
use Rattle.std.specs.Prelude.{Err, Ok, Result}
use Rattle.station.specs.Numbers.{Checked}
use Rattle.station.specs.declared.Refusal.{Refusal}
use Rattle.writing.specs.declared.Gap.{Gap}

-- the gap where the table refuses nothing, else its refusal
unfoldable pub with_gap : Gap → Checked → Result Gap Refusal
with_gap g (Ok _) = Ok g
with_gap g (Err x) = Err x
