-- Document 02, item 4: the number of each refusal, and number and values for each case of an answer.
use Rattle.std.specs.Prelude.{ℕ, Result, Ok, Err}
use Rattle.std.proofs.Math.Option.{Option, none, some}
use Rattle.reading_log.specs.declared.Record.{Record}
use Rattle.reading_log.specs.declared.LogRefusal.{LogRefusal}
use Rattle.reading_log.specs.declared.LogRefusal.TheVariants.{BadLog, LogFull, NotUsed}

-- "11 log length no multiple of 16; 12 no unused record; 13 record number not used"
abbrev pub log_refusal_number : LogRefusal → ℕ
log_refusal_number BadLog = 11
log_refusal_number LogFull = 12
log_refusal_number NotUsed = 13

-- the refusal's number, 0 where the call goes on; of an appending, of a record that is read, and of a number of a record or of records
abbrev pub logged_refusal : Result (Unit {0}) LogRefusal → ℕ
logged_refusal (Ok _) = 0
logged_refusal (Err x) = log_refusal_number x

abbrev pub log_read_refusal : Result Record LogRefusal → ℕ
log_read_refusal (Err x) = log_refusal_number x
log_read_refusal (Ok r) = 0

abbrev pub log_number_refusal : Result ℕ LogRefusal → ℕ
log_number_refusal (Err x) = log_refusal_number x
log_number_refusal (Ok n) = 0

-- the values: the record that is read, and the number; none where the call is refused
abbrev pub log_read_record : Result Record LogRefusal → Option Record
log_read_record (Err x) = none
log_read_record (Ok r) = some r

abbrev pub log_number_value : Result ℕ LogRefusal → Option ℕ
log_number_value (Err x) = none
log_number_value (Ok n) = some n
