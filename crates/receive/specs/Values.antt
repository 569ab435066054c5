-- Document 01's number and values for each case of an answer ("Expected forms by place", the last paragraph).
use Rattle.std.specs.Prelude.{ℕ, Bool, true, false, cond, Result, Ok, Err}
use Rattle.station.specs.declared.Refusal.{Refusal}
use Rattle.receive.specs.declared.Ended.{Ended}
use Rattle.station.specs.declared.Part.{Part}
use Rattle.station.specs.Numbers.{outcome_number, refusal_number}
use Rattle.receive.specs.declared.Answer.{Answer}
use Rattle.receive.specs.declared.Answer.TheVariants.{Refused, Nothing, Open, Counted}
use Rattle.receive.specs.Reading.{empty_part}

-- the outcome's number; 0 for `none`, `open` and a refused reading
abbrev pub answer_outcome : Answer → ℕ
answer_outcome (Refused x) = 0
answer_outcome Nothing = 0
answer_outcome Open = 0
answer_outcome (Counted o w p v) = outcome_number o

-- the refusal's number, or 0
abbrev pub answer_refusal : Answer → ℕ
answer_refusal (Refused x) = refusal_number x
answer_refusal Nothing = 0
answer_refusal Open = 0
answer_refusal (Counted o w p v) = 0

-- "`none` and `open` … give status 0 and no data"; "A refusal gives … status 0, an empty part"
abbrev pub answer_status : Answer → ℕ
answer_status (Refused x) = 0
answer_status Nothing = 0
answer_status Open = 0
answer_status (Counted o w p v) = w

abbrev pub answer_part : Answer → Part
answer_part (Refused x) = empty_part
answer_part Nothing = empty_part
answer_part Open = empty_part
answer_part (Counted o w p v) = p

-- document 02, item 7: which address let the frame in; 0 for `none`, `open` and a refused reading
abbrev pub answer_way : Answer → ℕ
answer_way (Refused x) = 0
answer_way Nothing = 0
answer_way Open = 0
answer_way (Counted o w p v) = v

-- a Start was counted
abbrev pub is_counted : Answer → Bool
is_counted (Refused x) = false
is_counted Nothing = false
is_counted Open = false
is_counted (Counted o w p v) = true

-- what a walk over a whole capture answers: its refusal, or how it ended
abbrev pub WalkAnswer : Type 0
WalkAnswer = Result Ended Refusal

abbrev pub walk_ended : ℕ → Bool → WalkAnswer
walk_ended n is_open = Ok (record { starts = n; is_open = is_open })

-- a walk's refusal, or 0
abbrev pub walk_refusal : WalkAnswer → ℕ
walk_refusal (Err x) = refusal_number x
walk_refusal (Ok e) = 0

-- how a walk ended: "the number of counted Starts", and "1 if the walk ended `open`, else 0"; 0 and 0 for a refused one
abbrev pub walk_starts : WalkAnswer → ℕ
walk_starts (Err x) = 0
walk_starts (Ok e) = e.starts

abbrev pub walk_open : WalkAnswer → ℕ
walk_open (Err x) = 0
walk_open (Ok e) = cond e.is_open 1 0
