-- What stands behind a pointer that one value crosses back by, after a refusal too. A record where there are two, so that a promise is one equation.
use Rattle.reading_log.specs.declared.LogRefusal.{LogRefusal}
use Rattle.reading_log.specs.declared.Record.{Record}
use Rattle.station.specs.declared.Refusal.{Refusal}
use Rattle.std.specs.Prelude.{ℕ, cond, List, eqb, Err, Ok, Result}
use Rattle.station.specs.declared.State.{State}
use Rattle.table.specs.Claims.{placed_refusal}
use Rattle.reading_log.specs.Numbers.{log_read_refusal, log_number_refusal}
use Rattle.reading_log.specs.Log.{octets_of_record}
use Rattle.crossing.specs.Records.{state_numbers}

-- "A refused call returns the state it was given": of its refusal's number, 0 if none, of the numbers before it, and of the state after it
unfoldable pub state_left : ℕ → List ℕ → State → List ℕ
state_left refusal before st = cond (eqb refusal 0) (state_numbers st) before

pub record RecordGiven : Type 0 where
  pub refusal : ℕ
  pub octets : List ℕ

abbrev pub record_given : ℕ → List ℕ → RecordGiven
record_given n o = record { refusal = n; octets = o }

-- of a record that is read: its 16 octets; a refusal leaves those that stood there before
unfoldable pub record_left : List ℕ → Result Record LogRefusal → List ℕ
record_left before (Err x) = before
record_left before (Ok r) = octets_of_record r

unfoldable pub record_told : List ℕ → Result Record LogRefusal → RecordGiven
record_told before x = record_given (log_read_refusal x) (record_left before x)

pub record NumberGiven : Type 0 where
  pub refusal : ℕ
  pub number : ℕ

abbrev pub number_given : ℕ → ℕ → NumberGiven
number_given n k = record { refusal = n; number = k }

-- of a number of records; a refusal leaves the one that stood there before
unfoldable pub number_left : ℕ → Result ℕ LogRefusal → ℕ
number_left before (Err x) = before
number_left before (Ok n) = n

unfoldable pub number_told : ℕ → Result ℕ LogRefusal → NumberGiven
number_told before x = number_given (log_number_refusal x) (number_left before x)

-- of a table call: the entry that it took or freed; a refusal leaves the number that stood there before
unfoldable pub entry_left : ℕ → Result ℕ Refusal → ℕ
entry_left before (Err x) = before
entry_left before (Ok k) = k

unfoldable pub entry_told : ℕ → Result ℕ Refusal → NumberGiven
entry_told before x = number_given (placed_refusal x) (entry_left before x)
