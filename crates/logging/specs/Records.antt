-- Document 02, items 4 and 7: the record of a reading.
use Rattle.std.specs.Prelude.{ℕ, ◌%◌, ◌^◌, ◌≡◌}
use Rattle.reading_log.specs.declared.Record.{Record}
use Rattle.receive.specs.declared.Reading.{Reading}
use Rattle.receive.specs.Values.{answer_outcome, answer_status, answer_part, answer_way}

-- "place (4 octets …), outcome (1), zero (1), octets handed out (2 …), status word (8 …)": each "at those widths", which a place and a number of octets
-- may exceed; those of a capture do not (`reading_whole`). Item 7: "the log's zero octet holds" the number of the address that let the frame in.
abbrev pub record_at : ℕ → ℕ → ℕ → ℕ → ℕ → Record
record_at start outcome way handed status =
    record { place = start % 2 ^ 32; outcome = outcome; way = way; handed = handed % 2 ^ 16; status = status }

-- "one record … per counted Start"; "outcome 0, which stands for `none`, `open` and a refused reading"
unfoldable pub record_of_reading : Reading → Record
record_of_reading r = record_at r.start (answer_outcome r.answer) (answer_way r.answer) (answer_part r.answer).len (answer_status r.answer)

-- nothing of a reading is cut off: its record's place and octets handed out are the reading's own
pub record Whole (r : Reading) : Type 0 where
  pub place : (record_of_reading r).place ≡ r.start
  pub handed : (record_of_reading r).handed ≡ (answer_part r.answer).len
