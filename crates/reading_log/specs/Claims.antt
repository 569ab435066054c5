-- What the claims of document 02, items 4 and 11, speak of. The theorems are proofs/Claims.antt and proofs/Room.antt.
use Rattle.std.specs.Prelude.{ℕ, zero, suc, ◌+◌, ◌-◌, ◌*◌, ◌/◌, ◌%◌, ◌^◌, ◌≤◌, ◌<◌, ◌≡◌, true, false, ◌↔◌, ◌⊎◌, List, [], ◌∷◌, ◌++◌}
use Rattle.std.specs.Prelude.{map, length, get_or, take, drop, set, replicate, eqb, Ok}
use Rattle.std.proofs.Math.Option.{none, some}
use Rattle.line.specs.Limits.{record_size}
use Rattle.line.specs.Line.{overwrite}
use Rattle.reading_log.specs.declared.Record.{Record}
use Rattle.reading_log.specs.declared.Reader.{Reader}
use Rattle.reading_log.specs.Log.{octets_of_record, record_of, is_used, counts, slot_at, slots, used_ones, used_count, remaining, at_front, compacted}
use Rattle.reading_log.specs.Log.{appending, record_read, used_records}
use Rattle.reading_log.specs.Room.{deleting, deleted_all, deleting_all, compacting}
use Rattle.reading_log.specs.Readers.{handing, hand_out}
use Rattle.reading_log.specs.Numbers.{logged_refusal, log_read_refusal, log_number_refusal, log_read_record, log_number_value}

-- ---- Writing and reading back

-- "From a log of zero octets": of n records
unfoldable pub zero_log : ℕ → List ℕ
zero_log n = replicate (record_size * n) 0

-- records appended one after the other
unfoldable pub append_all : List ℕ → List Record → List ℕ
append_all l [] = l
append_all l (r ∷ rs) = append_all (appending l r).log rs

-- "what was appended": those that stand for a counted Start, since "with outcome 0 … it appends nothing"
unfoldable pub counted_ones : List Record → List Record
counted_ones [] = []
counted_ones (r ∷ rs) = elim (counts r) [ true ↦ r ∷ counted_ones rs | false ↦ counted_ones rs ]

-- records written side by side from the front on, and zero octets behind them, up to n records
unfoldable pub filled : ℕ → List Record → List ℕ
filled n rs = at_front n (map octets_of_record rs)

-- those "up to the first unused record"
unfoldable pub front : List (List ℕ) → List (List ℕ)
front [] = []
front (s ∷ ss) = elim (is_used s) [ true ↦ s ∷ front ss | false ↦ [] ]

-- "reading it back up to the first unused record"
unfoldable pub read_back : List ℕ → List Record
read_back l = map record_of (front (slots l))

-- "the five fields at those widths": what is true of every value of the type
pub record Fits (r : Record) : Type 0 where
  pub place : r.place < 2 ^ 32
  pub outcome : r.outcome < 2 ^ 8
  pub way : r.way < 2 ^ 8
  pub handed : r.handed < 2 ^ 16
  pub status : r.status < 2 ^ 64

unfoldable pub AllFit : List Record → Type 0
AllFit [] = Unit {0}
AllFit (r ∷ rs) = Fits r × AllFit rs

-- every place holds an octet: what is true of every lent buffer
abbrev pub OfOctets : List ℕ → Type 0
OfOctets l = (k : ℕ) → get_or l k 0 < 256

-- what a reader hands out, call after call, until it is refused; `most` calls at most
unfoldable pub read_out : ℕ → Reader → List Record
read_out zero r = []
read_out (suc most) r = elim (log_read_record (hand_out r).given) [ none ↦ [] | some x ↦ x ∷ read_out most (hand_out r).reader ]

-- ---- Refusals: "11 log length no multiple of 16; 12 no unused record; 13 record number not used; in that order"

abbrev pub IsMultiple : List ℕ → Type 0
IsMultiple l = length l % record_size ≡ 0

abbrev pub Used : List ℕ → ℕ → Type 0
Used l k = is_used (slot_at l k) ≡ true

abbrev pub EveryUsed : List ℕ → Type 0
EveryUsed l = (k : ℕ) → k < length l / record_size → Used l k

-- "the first unused one": it is not used, and each before it is
abbrev pub IsFirstUnused : List ℕ → ℕ → Type 0
IsFirstUnused l k = (k < length l / record_size) × ((j : ℕ) → j < k → Used l j) × (Used l k → ⊥)

-- of a log without deletions item 4 holds as it stands: none is unused before a used one
abbrev pub NoHole : List ℕ → Type 0
NoHole l = (j k : ℕ) → j < k → Used l k → Used l j

-- "after the last used record": the slot before is used, and none from there on; the first slot, where none is used
abbrev pub IsBehindLast : List ℕ → ℕ → Type 0
IsBehindLast l k = (k ≤ length l / record_size) × (0 < k → Used l (k - 1)) × ((j : ℕ) → k ≤ j → j < length l / record_size → Used l j → ⊥)

-- the next used record from a number on, and that there is none
abbrev pub IsNextUsed : List ℕ → ℕ → ℕ → Type 0
IsNextUsed l at k = (at ≤ k) × Used l k × ((j : ℕ) → at ≤ j → j < k → Used l j → ⊥)

abbrev pub NoneUsed : List ℕ → ℕ → Type 0
NoneUsed l at = (k : ℕ) → at ≤ k → Used l k → ⊥

-- appending gives 11, 12 or neither, each exactly when; "with outcome 0 … it appends nothing and never gives 12"; a refusal leaves the log;
-- "appending takes the first unused one", of a log without deletions; it "goes after the last used record, and compacts first if that one is the last
-- slot", which leaves as many records as are used
pub record AppendsOrRefuses (l : List ℕ) (r : Record) : Type 0 where
  pub listed : (logged_refusal (appending l r).given ≡ 0) ⊎ ((logged_refusal (appending l r).given ≡ 11) ⊎ (logged_refusal (appending l r).given ≡ 12))
  pub eleven : (logged_refusal (appending l r).given ≡ 11) ↔ (IsMultiple l → ⊥)
  pub twelve : (logged_refusal (appending l r).given ≡ 12) ↔ (IsMultiple l × (r.outcome ≡ 0 → ⊥) × EveryUsed l)
  pub refused : 0 < logged_refusal (appending l r).given → (appending l r).log ≡ l
  pub nothing : r.outcome ≡ 0 → (appending l r).log ≡ l
  pub takes : (k : ℕ) → IsMultiple l → (r.outcome ≡ 0 → ⊥) → NoHole l → IsFirstUnused l k
      → (appending l r).log ≡ overwrite l (record_size * k) (octets_of_record r)
  pub behind : (k : ℕ) → IsMultiple l → (r.outcome ≡ 0 → ⊥) → IsBehindLast l k → k < length l / record_size
      → (appending l r).log ≡ overwrite l (record_size * k) (octets_of_record r)
  pub compacts : IsMultiple l → (r.outcome ≡ 0 → ⊥) → (EveryUsed l → ⊥) → IsBehindLast l (length l / record_size)
      → (appending l r).log ≡ overwrite (compacted l) (record_size * used_count l) (octets_of_record r)

-- a record is read, or 11, or 13; "Records are read as they stand"
pub record RecordOrRefuses (l : List ℕ) (k : ℕ) : Type 0 where
  pub listed : (log_read_refusal (record_read l k) ≡ 0) ⊎ ((log_read_refusal (record_read l k) ≡ 11) ⊎ (log_read_refusal (record_read l k) ≡ 13))
  pub eleven : (log_read_refusal (record_read l k) ≡ 11) ↔ (IsMultiple l → ⊥)
  pub thirteen : (log_read_refusal (record_read l k) ≡ 13) ↔ (IsMultiple l × (Used l k → ⊥))
  pub reads : IsMultiple l → Used l k → log_read_record (record_read l k) ≡ some (record_of (slot_at l k))

-- a record is deleted, or 11, or 13, which leaves the log; "A deleted record's outcome octet becomes 0", and no other changes
pub record DeletesOrRefuses (l : List ℕ) (k : ℕ) : Type 0 where
  pub listed : (logged_refusal (deleting l k).given ≡ 0) ⊎ ((logged_refusal (deleting l k).given ≡ 11) ⊎ (logged_refusal (deleting l k).given ≡ 13))
  pub eleven : (logged_refusal (deleting l k).given ≡ 11) ↔ (IsMultiple l → ⊥)
  pub thirteen : (logged_refusal (deleting l k).given ≡ 13) ↔ (IsMultiple l × (Used l k → ⊥))
  pub refused : 0 < logged_refusal (deleting l k).given → (deleting l k).log ≡ l
  pub deletes : IsMultiple l → Used l k → (deleting l k).log ≡ set l (record_size * k + 4) 0
  pub unused : IsMultiple l → Used l k → Used (deleting l k).log k → ⊥

-- those that remain before record k, and behind it
unfoldable pub before : List ℕ → ℕ → List Record
before l k = map record_of (used_ones (take k (slots l)))

unfoldable pub behind : List ℕ → ℕ → List Record
behind l k = map record_of (used_ones (drop (k + 1) (slots l)))

-- "the remaining ones": all but the deleted one, in their order
pub record Removes (l : List ℕ) (k : ℕ) : Type 0 where
  pub was : remaining l ≡ before l k ++ (record_of (slot_at l k) ∷ behind l k)
  pub is : remaining (deleting l k).log ≡ before l k ++ behind l k

-- those of another outcome
unfoldable pub others : ℕ → List Record → List Record
others o [] = []
others o (r ∷ rs) = elim (eqb r.outcome o) [ true ↦ others o rs | false ↦ r ∷ others o rs ]

-- "Support deletes records of outcomes they have dealt with": each record of the outcome is deleted and no other octet changes, those of other outcomes
-- remain, and the number tells how many do not; or 11, which leaves the log. Outcome 0 is that of no used record
pub record DeletesAllOrRefuses (l : List ℕ) (o : ℕ) : Type 0 where
  pub listed : (log_number_refusal (deleting_all l o).given ≡ 0) ⊎ (log_number_refusal (deleting_all l o).given ≡ 11)
  pub eleven : (log_number_refusal (deleting_all l o).given ≡ 11) ↔ (IsMultiple l → ⊥)
  pub refused : 0 < log_number_refusal (deleting_all l o).given → (deleting_all l o).log ≡ l
  pub deletes : IsMultiple l → slots (deleting_all l o).log ≡ deleted_all o (slots l)
  pub remains : IsMultiple l → remaining (deleting_all l o).log ≡ others o (remaining l)
  pub counts : IsMultiple l → log_number_value (deleting_all l o).given ≡ some (length (remaining l) - length (others o (remaining l)))
  pub nothing : o ≡ 0 → (deleting_all l o).log ≡ l

-- a log is compacted, or 11, which leaves it
pub record CompactsOrRefuses (l : List ℕ) : Type 0 where
  pub listed : (logged_refusal (compacting l).given ≡ 0) ⊎ (logged_refusal (compacting l).given ≡ 11)
  pub eleven : (logged_refusal (compacting l).given ≡ 11) ↔ (IsMultiple l → ⊥)
  pub refused : 0 < logged_refusal (compacting l).given → (compacting l).log ≡ l
  pub compacts : IsMultiple l → (compacting l).log ≡ compacted l

-- how many records are unused
unfoldable pub unused_count : List ℕ → ℕ
unused_count l = length l / record_size - used_count l

-- the used records are counted, or 11
pub record CountsOrRefuses (l : List ℕ) : Type 0 where
  pub listed : (log_number_refusal (used_records l) ≡ 0) ⊎ (log_number_refusal (used_records l) ≡ 11)
  pub eleven : (log_number_refusal (used_records l) ≡ 11) ↔ (IsMultiple l → ⊥)
  pub counts : IsMultiple l → log_number_value (used_records l) ≡ some (length (remaining l))

-- a reader gives 11, 13 or neither, each exactly when, and a refusal leaves it. "The reader skips deleted records": it hands out the next used one, and
-- goes on behind it. It keeps its log. Of a log without deletions it reads the record at its place, and moves on by one
pub record HandsOutOrRefuses (r : Reader) : Type 0 where
  pub listed : (log_read_refusal (hand_out r).given ≡ 0) ⊎ ((log_read_refusal (hand_out r).given ≡ 11) ⊎ (log_read_refusal (hand_out r).given ≡ 13))
  pub eleven : (log_read_refusal (hand_out r).given ≡ 11) ↔ (IsMultiple r.log.now → ⊥)
  pub thirteen : (log_read_refusal (hand_out r).given ≡ 13) ↔ (IsMultiple r.log.now × NoneUsed r.log.now r.at)
  pub skips : (k : ℕ) → IsMultiple r.log.now → IsNextUsed r.log.now r.at k
      → hand_out r ≡ handing (Ok (record_of (slot_at r.log.now k))) (record { log = r.log; at = k + 1 })
  pub refused : 0 < log_read_refusal (hand_out r).given → (hand_out r).reader ≡ r
  pub keeps : (hand_out r).reader.log ≡ r.log
  pub given : NoHole r.log.now → (hand_out r).given ≡ record_read r.log.now r.at
  pub moves : NoHole r.log.now → log_read_refusal (hand_out r).given ≡ 0 → (hand_out r).reader.at ≡ r.at + 1
