-- The C face (include/fenhamper.h): what each exported call leaves behind its pointers. What the records stand for is crossing/specs.
use Rattle.station.specs.declared.Refusal.{Refusal}
use Rattle.std.specs.Prelude.{ℕ, List, [], ◌∷◌, get_or, Err, Ok, Result}
use Rattle.station.specs.Numbers.{checked_number}
use Rattle.table.specs.Calls.{Change}
use Rattle.receive.specs.declared.Answer.{Answer}
use Rattle.receive.specs.declared.Reading.{Reading}
use Rattle.receive.specs.declared.Walking.{Walking}
use Rattle.receive.specs.Values.{answer_refusal, answer_part, walk_refusal}
use Rattle.reading_log.specs.declared.Step.{Step}
use Rattle.reading_log.specs.Numbers.{logged_refusal, log_read_refusal}
use Rattle.reading_log.specs.Log.{Logging}
use Rattle.reading_log.specs.Room.{Numbered}
use Rattle.logging.specs.Walks.{Keeping}
use Rattle.logging.specs.Claims.{end_refusal}
use Rattle.send.specs.Sending.{SendCall, send_refusal}
use Rattle.totals.specs.Totals.{Filling, count_refusal}
use Rattle.counting.specs.Counting.{Counting}
use Rattle.plain.specs.declared.Step as plain
use Rattle.sizes.specs.declared.Added.{Added}
use Rattle.crossing.specs.Records.{reading_numbers, walk_numbers, sent_numbers, keep_numbers}
use Rattle.crossing.specs.Given.{state_left, record_left, NumberGiven, number_given, number_told, entry_told}
use Rattle.crossing.specs.Reader.{told_numbers, ReaderGiven, reader_given, reader_left, counted_left}
use Rattle.crossing.specs.Bands.{sizes_numbers}

-- the layout of the records, by its number: the name of an exported symbol has it, and it is what that function gives
abbrev pub layout : ℕ
layout = 4

-- ---- what a call leaves behind its pointers: a record, so that a promise is one equation

pub record Told : Type 0 where
  pub answer : List ℕ
  pub state : List ℕ

abbrev pub told : List ℕ → List ℕ → Told
told a st = record { answer = a; state = st }

-- of a reading, and of a walk, each with the numbers of the state before it
unfoldable pub read_told : List ℕ → Reading → Told
read_told before r = told (reading_numbers r) (state_left (answer_refusal r.answer) before r.state)

unfoldable pub walk_told : List ℕ → Walking → Told
walk_told before w = told (walk_numbers w) (state_left (walk_refusal w.answer) before w.state)

pub record Wrote : Type 0 where
  pub answer : List ℕ
  pub state : List ℕ
  pub octets : List ℕ
  pub marks : List ℕ

abbrev pub wrote : List ℕ → List ℕ → List ℕ → List ℕ → Wrote
wrote a st os ms = record { answer = a; state = st; octets = os; marks = ms }

-- of a sending call, likewise
unfoldable pub send_told : List ℕ → SendCall → Wrote
send_told before x = wrote (sent_numbers x.given) (state_left (send_refusal x.given.answer) before x.given.state) x.octets x.marks

-- ---- what a call over a log leaves: its answer is the refusal's number

pub record Kept : Type 0 where
  pub answer : List ℕ
  pub state : List ℕ
  pub log : List ℕ

abbrev pub kept : List ℕ → List ℕ → List ℕ → Kept
kept a st l = record { answer = a; state = st; log = l }

-- of a walk that keeps its readings, with the numbers of the state before it
unfoldable pub keep_told : List ℕ → Keeping → Kept
keep_told before k = kept (keep_numbers k.given) (state_left (end_refusal k.given.end) before k.given.state) k.log

pub record Lodged : Type 0 where
  pub refusal : ℕ
  pub log : List ℕ

abbrev pub lodged : ℕ → List ℕ → Lodged
lodged n l = record { refusal = n; log = l }

-- of a call that changes a log: an appending, a deletion, a compaction
unfoldable pub log_told : Logging → Lodged
log_told x = lodged (logged_refusal x.given) x.log

pub record StepGiven : Type 0 where
  pub refusal : ℕ
  pub at : ℕ
  pub octets : List ℕ

abbrev pub step_given : ℕ → ℕ → List ℕ → StepGiven
step_given n at o = record { refusal = n; at = at; octets = o }

-- of a record that a reader hands out, with its record number after that
unfoldable pub step_told : List ℕ → Step → StepGiven
step_told before s = step_given (log_read_refusal s.read) s.at (record_left before s.read)

pub record LogGiven : Type 0 where
  pub number : NumberGiven
  pub log : List ℕ

abbrev pub log_given : ℕ → ℕ → List ℕ → LogGiven
log_given n k l = record { number = number_given n k; log = l }

-- of a deletion of every record of an outcome: how many these were, likewise
unfoldable pub deleted_told : ℕ → Numbered → LogGiven
deleted_told before x = record { number = number_told before x.given; log = x.log }

-- ---- what a call with the totals of a capture leaves (document 02, item 9)

pub record TotalsGiven : Type 0 where
  pub refusal : ℕ
  pub totals : List ℕ

abbrev pub totals_given : ℕ → List ℕ → TotalsGiven
totals_given n ts = record { refusal = n; totals = ts }

-- of filling
unfoldable pub fill_told : Filling → TotalsGiven
fill_told x = totals_given (checked_number x.given) x.totals

-- of how many Starts lie before a place; a refusal leaves the number that stood there before
unfoldable pub starts_left : ℕ → Result ℕ Refusal → ℕ
starts_left before (Ok n) = n
starts_left before (Err x) = before

unfoldable pub starts_told : ℕ → Result ℕ Refusal → NumberGiven
starts_told before x = number_given (count_refusal x) (starts_left before x)

pub record WithTotals : Type 0 where
  pub sent : Wrote
  pub totals : List ℕ

abbrev pub with_totals : List ℕ → List ℕ → List ℕ → List ℕ → List ℕ → WithTotals
with_totals a st os ms ts = record { sent = wrote a st os ms; totals = ts }

-- of a sending call: all that the call without totals leaves, and the totals
unfoldable pub count_told : List ℕ → Counting → WithTotals
count_told before x = record { sent = send_told before x.sent; totals = x.totals }

-- ---- what a call of two jobs leaves (document 02, item 10)

pub record TableGiven : Type 0 where
  pub placed : NumberGiven
  pub table : List ℕ

abbrev pub table_given : ℕ → ℕ → List ℕ → TableGiven
table_given n k t = record { placed = number_given n k; table = t }

unfoldable pub table_told : ℕ → Change → TableGiven
table_told before x = record { placed = entry_told before x.answer; table = x.table }

pub record PartGiven : Type 0 where
  pub refusal : ℕ
  pub part : List ℕ

abbrev pub part_given : ℕ → List ℕ → PartGiven
part_given n p = record { refusal = n; part = p }

-- of the screen call: place and length of the part that a reading's answer hands out
unfoldable pub part_told : Answer → PartGiven
part_told a = part_given (answer_refusal a) ((answer_part a).at ∷ (answer_part a).len ∷ [])

-- ---- what a symbol of the plain reader leaves (document 02, item 12)

pub record PlainGiven : Type 0 where
  pub answer : List ℕ
  pub reader : ReaderGiven
  pub state : List ℕ

abbrev pub plain_given : List ℕ → List ℕ → List ℕ → List ℕ → List ℕ → PlainGiven
plain_given a n f l st = record { answer = a; reader = reader_given n f l; state = st }

-- of a symbol, with the reader's arrays and the state's numbers before it
unfoldable pub plain_told : ReaderGiven → List ℕ → plain.Step → PlainGiven
plain_told reader before k =
    record {
      answer = told_numbers k.told;
      reader = reader_left (get_or (told_numbers k.told) 0 0) reader k.plain;
      state = counted_left (get_or (told_numbers k.told) 1 0) before k.plain.state;
    }

-- ---- what a call with a size table leaves (document 02, item 13)

pub record SizesGiven : Type 0 where
  pub refusal : ℕ
  pub numbers : List ℕ

abbrev pub sizes_given : ℕ → List ℕ → SizesGiven
sizes_given n l = record { refusal = n; numbers = l }

-- of adding a capture: the refusal's number, 0 if none, and the table
unfoldable pub add_told : Added → SizesGiven
add_told x = sizes_given (checked_number x.answer) (sizes_numbers x.sizes)
