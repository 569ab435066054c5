-- The number and values of each case of an answer.
use Rattle.std.specs.Prelude.{ℕ, Bool, true, false}
use Rattle.station.specs.declared.Part.{Part}
use Rattle.station.specs.Numbers.{refusal_number}
use Rattle.receive.specs.Reading.{empty_part}
use Rattle.reason.specs.declared.Reason.{Reason}
use Rattle.reason.specs.declared.Reason.TheVariants.{CutAt, ShortRun, WrongOctet, TooShort, TooLong, FcsDiffers, LengthBroken, NotForUs, TookPause, TookPfc, DroppedControl, Handed}
use Rattle.reason.specs.declared.Why.{Why}
use Rattle.reason.specs.declared.Why.TheVariants.{Refused, Nothing, Open, Because}

-- the number of the outcome that a reason is for
abbrev pub reason_number : Reason → ℕ
reason_number (CutAt p o) = 1
reason_number (ShortRun n) = 2
reason_number (WrongOctet p) = 2
reason_number (TooShort n m) = 3
reason_number (TooLong n m) = 4
reason_number (FcsDiffers a b) = 5
reason_number (LengthBroken n m) = 6
reason_number (NotForUs d) = 7
reason_number (TookPause n) = 8
reason_number (TookPfc n) = 9
reason_number (DroppedControl n) = 10
reason_number (Handed p n) = 11

-- the outcome's number; 0 for `none`, `open` and a refusal
abbrev pub why_outcome : Why → ℕ
why_outcome (Refused x) = 0
why_outcome Nothing = 0
why_outcome Open = 0
why_outcome (Because r) = reason_number r

-- the refusal's number, or 0
abbrev pub why_refusal : Why → ℕ
why_refusal (Refused x) = refusal_number x
why_refusal Nothing = 0
why_refusal Open = 0
why_refusal (Because r) = 0

-- "`none` and `open` have no reason"
abbrev pub has_reason : Why → Bool
has_reason (Refused x) = false
has_reason Nothing = false
has_reason Open = false
has_reason (Because r) = true

-- "for 11, place and length of the data", as a reading's part; for 1 to 10 the empty part
abbrev pub part_in : Reason → Part
part_in (CutAt p o) = empty_part
part_in (ShortRun n) = empty_part
part_in (WrongOctet p) = empty_part
part_in (TooShort n m) = empty_part
part_in (TooLong n m) = empty_part
part_in (FcsDiffers a b) = empty_part
part_in (LengthBroken n m) = empty_part
part_in (NotForUs d) = empty_part
part_in (TookPause n) = empty_part
part_in (TookPfc n) = empty_part
part_in (DroppedControl n) = empty_part
part_in (Handed p n) = record { at = p; len = n }

abbrev pub why_part : Why → Part
why_part (Refused x) = empty_part
why_part Nothing = empty_part
why_part Open = empty_part
why_part (Because r) = part_in r
