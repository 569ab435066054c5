-- Document 01's number and values for each case of what the plain reader tells ("Expected forms by place", the last paragraph). Where it says nothing, or
-- refuses, they are those of a reading that counts no Start.
use Rattle.std.specs.Prelude.{ℕ}
use Rattle.station.specs.declared.Part.{Part}
use Rattle.station.specs.Numbers.{outcome_number, refusal_number}
use Rattle.receive.specs.Reading.{empty_part}
use Rattle.kept.specs.declared.Told.{Told}
use Rattle.kept.specs.declared.Told.TheVariants.{Refused, Quiet, Counted}

-- the refusal's number, or 0
abbrev pub told_refusal : Told → ℕ
told_refusal (Refused x) = refusal_number x
told_refusal Quiet = 0
told_refusal (Counted o w p v) = 0

-- the outcome's number, or 0
abbrev pub told_outcome : Told → ℕ
told_outcome (Refused x) = 0
told_outcome Quiet = 0
told_outcome (Counted o w p v) = outcome_number o

abbrev pub told_status : Told → ℕ
told_status (Refused x) = 0
told_status Quiet = 0
told_status (Counted o w p v) = w

-- "the data's place and length in the capture"
abbrev pub told_part : Told → Part
told_part (Refused x) = empty_part
told_part Quiet = empty_part
told_part (Counted o w p v) = p

-- item 7's number
abbrev pub told_way : Told → ℕ
told_way (Refused x) = 0
told_way Quiet = 0
told_way (Counted o w p v) = v
