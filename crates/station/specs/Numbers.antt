-- Document 01's number of each outcome ("Reading one Start", the table) and of each refusal ("Refusals and their order").
use Rattle.std.specs.Prelude.{ℕ, Result, Ok, Err}
use Rattle.station.specs.declared.Outcome.{Outcome}
use Rattle.station.specs.declared.Outcome.TheVariants.{Cut, BadPreamble, Undersized, Oversized, WrongFcs, WrongLength, Filtered, PauseTaken, PfcTaken, ControlDropped, HandedOut}
use Rattle.station.specs.declared.Refusal.{Refusal}
use Rattle.station.specs.declared.Refusal.TheVariants.{BadSettings, BadBuffers, BadPlace, OtherFlow, BadClass, BadType, LongData, NoRoom, Held, ManyTags, BadJob, HoldsTwelve, AllInUse, AlreadyListed, NotListed, HighDeficit, BadTable, WrongTotals, HighTotal}

abbrev pub outcome_number : Outcome → ℕ
outcome_number Cut = 1
outcome_number BadPreamble = 2
outcome_number Undersized = 3
outcome_number Oversized = 4
outcome_number WrongFcs = 5
outcome_number WrongLength = 6
outcome_number Filtered = 7
outcome_number PauseTaken = 8
outcome_number PfcTaken = 9
outcome_number ControlDropped = 10
outcome_number HandedOut = 11

abbrev pub refusal_number : Refusal → ℕ
refusal_number BadSettings = 1
refusal_number BadBuffers = 2
refusal_number BadPlace = 3
refusal_number OtherFlow = 4
refusal_number BadClass = 5
refusal_number BadType = 6
refusal_number LongData = 7
refusal_number NoRoom = 8
refusal_number Held = 9
refusal_number ManyTags = 10
refusal_number BadJob = 14
refusal_number HoldsTwelve = 15
refusal_number AllInUse = 16
refusal_number AlreadyListed = 17
refusal_number NotListed = 18
refusal_number HighDeficit = 19
refusal_number BadTable = 20
refusal_number WrongTotals = 21
refusal_number HighTotal = 22

-- what a table of refusals gives: the first refusal that holds, or that the call goes on
abbrev pub Checked : Type 0
Checked = Result (Unit {0}) Refusal

-- the number of what a table of refusals gives, 0 where the call goes on
abbrev pub checked_number : Checked → ℕ
checked_number (Ok _) = 0
checked_number (Err x) = refusal_number x

-- what depends on an outcome: one value for 1 to 7, and one each for 8, 9, 10 and 11
abbrev pub by_outcome : {A : Type 0} → Outcome → A → A → A → A → A → A
by_outcome Cut one-to-seven eight nine ten eleven = one-to-seven
by_outcome BadPreamble one-to-seven eight nine ten eleven = one-to-seven
by_outcome Undersized one-to-seven eight nine ten eleven = one-to-seven
by_outcome Oversized one-to-seven eight nine ten eleven = one-to-seven
by_outcome WrongFcs one-to-seven eight nine ten eleven = one-to-seven
by_outcome WrongLength one-to-seven eight nine ten eleven = one-to-seven
by_outcome Filtered one-to-seven eight nine ten eleven = one-to-seven
by_outcome PauseTaken one-to-seven eight nine ten eleven = eight
by_outcome PfcTaken one-to-seven eight nine ten eleven = nine
by_outcome ControlDropped one-to-seven eight nine ten eleven = ten
by_outcome HandedOut one-to-seven eight nine ten eleven = eleven
