-- Document 02, items 4 and 11: the reading log. A log is the octets of a lent buffer; its records stand side by side from the front on.
use Rattle.std.specs.Prelude.{ℕ, zero, suc, ◌+◌, ◌-◌, ◌*◌, ◌/◌, ◌%◌, Bool, true, false, not, ◌&&◌, ◌||◌, cond, List, [], ◌∷◌, ◌++◌}
use Rattle.std.specs.Prelude.{map, length, get_or, take, drop, replicate, eqb, ltb, Result, Ok, Err}
use Rattle.line.specs.Limits.{record_size}
use Rattle.line.specs.Line.{overwrite}
use Rattle.line.specs.Octets.{low_first}
use Rattle.line.specs.Table.{Table, ◌⇒◌, ◌∣◌, otherwise, first}
use Rattle.reading_log.specs.declared.Record.{Record}
use Rattle.reading_log.specs.declared.LogRefusal.{LogRefusal}
use Rattle.reading_log.specs.declared.LogRefusal.TheVariants.{BadLog, LogFull, NotUsed}

-- ---- One record

-- a number as n octets, "low first"
unfoldable pub low_octets : ℕ → ℕ → List ℕ
low_octets zero x = []
low_octets (suc n) x = x % 256 ∷ low_octets n (x / 256)

-- "place (4 octets, low first), outcome (1), zero (1), octets handed out (2, low first), status word (8, low first)"; item 7: "the log's zero octet holds"
-- which address let the frame in "from then on"
unfoldable pub octets_of_record : Record → List ℕ
octets_of_record r =
    low_octets 4 r.place ++ low_octets 1 r.outcome ++ low_octets 1 r.way ++ low_octets 2 r.handed ++ low_octets 8 r.status

-- "Records are read as they stand": the record that stands in 16 octets
unfoldable pub record_of : List ℕ → Record
record_of s =
    record { place = low_first s 0 4; outcome = low_first s 4 1; way = low_first s 5 1; handed = low_first s 6 2; status = low_first s 8 8 }

-- "A record is used if its outcome octet isn't zero": of the octets that it stands in
unfoldable pub is_used : List ℕ → Bool
is_used s = not (eqb (get_or s 4 0) 0)

-- a record that is to be appended stands for a counted Start: not "with outcome 0"
unfoldable pub counts : Record → Bool
counts r = not (eqb r.outcome 0)

-- ---- The log

-- the octets of record k; none beyond the end
unfoldable pub slot_at : List ℕ → ℕ → List ℕ
slot_at l k = take record_size (drop (record_size * k) l)

-- the octets of each record in turn, of n records
unfoldable pub slots_in : ℕ → List ℕ → List (List ℕ)
slots_in zero l = []
slots_in (suc n) l = take record_size l ∷ slots_in n (drop record_size l)

-- "no header": the log's length says how many there are
unfoldable pub slots : List ℕ → List (List ℕ)
slots l = slots_in (length l / record_size) l

-- there is "no unused record"
unfoldable pub all_used : List (List ℕ) → Bool
all_used [] = true
all_used (s ∷ ss) = is_used s && all_used ss

-- item 11: "the remaining ones … in their order", which are the used ones, and how many they are
unfoldable pub used_ones : List (List ℕ) → List (List ℕ)
used_ones [] = []
used_ones (s ∷ ss) = elim (is_used s) [ true ↦ s ∷ used_ones ss | false ↦ used_ones ss ]

unfoldable pub used_count : List ℕ → ℕ
used_count l = length (used_ones (slots l))

-- "the records that remain"
unfoldable pub remaining : List ℕ → List Record
remaining l = map record_of (used_ones (slots l))

-- how many records there are up to "the last used record", that one included: the number of the slot "after" it
unfoldable pub up_to_last : List (List ℕ) → ℕ
up_to_last [] = 0
up_to_last (s ∷ ss) = cond (is_used s || ltb 0 (up_to_last ss)) (1 + up_to_last ss) 0

unfoldable pub extent : List ℕ → ℕ
extent l = up_to_last (slots l)

-- ---- Compaction

-- records side by side
unfoldable pub joined : List (List ℕ) → List ℕ
joined [] = []
joined (s ∷ ss) = s ++ joined ss

-- records side by side from the front on, and zero octets behind them, up to n records
unfoldable pub at_front : ℕ → List (List ℕ) → List ℕ
at_front n ss = joined ss ++ replicate (record_size * (n - length ss)) 0

-- "Compaction moves the remaining ones to the front in their order and fills the rest with zero octets"
unfoldable pub compacted : List ℕ → List ℕ
compacted l = at_front (length l / record_size) (used_ones (slots l))

-- ---- Refusals: "11 log length no multiple of 16; 12 no unused record; 13 record number not used; in that order"

unfoldable pub bad_log : List ℕ → Bool
bad_log l = not (eqb (length l % record_size) 0)

-- "with outcome 0 … it appends nothing and never gives 12"
unfoldable pub append_refusals : List ℕ → Record → Table (Result (Unit {0}) LogRefusal)
append_refusals l r = bad_log l ⇒ Err BadLog ∣ (counts r && all_used (slots l)) ⇒ Err LogFull ∣ otherwise (Ok tt)

unfoldable pub record_refusals : List ℕ → ℕ → Table (Result (Unit {0}) LogRefusal)
record_refusals l k = bad_log l ⇒ Err BadLog ∣ not (is_used (slot_at l k)) ⇒ Err NotUsed ∣ otherwise (Ok tt)

-- of a call on all records
unfoldable pub log_refusals : List ℕ → Table (Result (Unit {0}) LogRefusal)
log_refusals l = bad_log l ⇒ Err BadLog ∣ otherwise (Ok tt)

-- ---- Appending

-- what a call gives, and the lent log after it: a record, so that a promise is one equation
pub record Logging : Type 0 where
  pub given : Result (Unit {0}) LogRefusal
  pub log : List ℕ

abbrev pub logging : Result (Unit {0}) LogRefusal → List ℕ → Logging
logging a l = record { given = a; log = l }

-- "and compacts first if that one is the last slot": the log with a slot free behind its last used record, unless every record is used
unfoldable pub roomy : List ℕ → List ℕ
roomy l = elim (eqb (extent l) (length l / record_size)) [ true ↦ compacted l | false ↦ l ]

-- "Appending now goes after the last used record"; "with outcome 0 … it appends nothing"
unfoldable pub appended : List ℕ → Record → List ℕ
appended l r = elim (counts r) [ true ↦ overwrite (roomy l) (record_size * extent (roomy l)) (octets_of_record r) | false ↦ l ]

-- a refusal leaves the log as it was
unfoldable pub append_checked : Result (Unit {0}) LogRefusal → List ℕ → Record → Logging
append_checked (Err x) l r = logging (Err x) l
append_checked (Ok _) l r = logging (Ok tt) (appended l r)

unfoldable pub appending : List ℕ → Record → Logging
appending l r = append_checked (first (append_refusals l r)) l r

-- ---- Reading

-- the record of a stated number
unfoldable pub record_checked : Result (Unit {0}) LogRefusal → List ℕ → ℕ → Result Record LogRefusal
record_checked (Err x) l k = Err x
record_checked (Ok _) l k = Ok (record_of (slot_at l k))

unfoldable pub record_read : List ℕ → ℕ → Result Record LogRefusal
record_read l k = record_checked (first (record_refusals l k)) l k

-- how many records are used
unfoldable pub number_checked : Result (Unit {0}) LogRefusal → ℕ → Result ℕ LogRefusal
number_checked (Err x) n = Err x
number_checked (Ok _) n = Ok n

unfoldable pub used_records : List ℕ → Result ℕ LogRefusal
used_records l = number_checked (first (log_refusals l)) (used_count l)
