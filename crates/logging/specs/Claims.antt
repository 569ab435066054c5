-- What the claims on a walk that keeps its readings speak of. The theorems are proofs/Claims.antt, proofs/Added.antt, proofs/Refused.antt and
-- proofs/Full.antt.
use Rattle.receive.specs.Values.{WalkAnswer}
use Rattle.std.specs.Prelude.{ℕ, ◌+◌, ◌-◌, ◌<◌, ◌≡◌, true, false, ◌↔◌, List, [], ◌∷◌, ◌++◌, map, length, take, Ok, Err}
use Rattle.station.specs.declared.Settings.{Settings}
use Rattle.station.specs.declared.State.{State}
use Rattle.station.specs.Numbers.{refusal_number}
use Rattle.table.specs.declared.Entry.{Entry}
use Rattle.reading_log.specs.declared.Record.{Record}
use Rattle.reading_log.specs.Numbers.{log_refusal_number, logged_refusal}
use Rattle.reading_log.specs.Log.{remaining, appending}
use Rattle.reading_log.specs.Claims.{zero_log, append_all, counted_ones, read_back, filled, IsMultiple, EveryUsed, unused_count}
use Rattle.receive.specs.declared.Reading.{Reading}
use Rattle.receive.specs.Values.{is_counted, answer_refusal}
use Rattle.receive.specs.Reading.{reading}
use Rattle.receive.specs.Walk.{readings_from, walk, walked}
use Rattle.logging.specs.declared.KeepRefusal.TheVariants.{ByReading, ByLog}
use Rattle.logging.specs.declared.LogEnd.{LogEnd}
use Rattle.logging.specs.declared.LogEnd.TheVariants.{Nothing, Open, Full}
use Rattle.logging.specs.Records.{record_of_reading}
use Rattle.logging.specs.Walks.{Keeping, stopped, walk_logged}

-- the records of readings: "one record … per counted Start", in their order
unfoldable pub records_of : List Reading → List Record
records_of rs = counted_ones (map record_of_reading rs)

-- the next place of the last reading, p where there is none
unfoldable pub last_next : ℕ → List Reading → ℕ
last_next p [] = p
last_next p (r ∷ rs) = last_next r.next rs

-- how a walk ends that always found a record: as the walk itself
abbrev pub end_of : WalkAnswer → LogEnd
end_of (Err x) = LogEnd.Refused (ByReading x)
end_of (Ok e) = elim e.is_open [ true ↦ Open | false ↦ Nothing ]

-- "the readings of a run kept": from place 0, with a log of zero octets of so many records, what stands in the log are the records of the walk's counted
-- readings in order, and all else is the walk's own
pub record KeepsWalk (s : Settings) (job : ℕ) (es : List Entry) (st : State) (os ms : List ℕ) (room : ℕ) : Type 0 where
  pub log : (walk_logged s job es st os ms 0 (zero_log room)).log ≡ filled room (records_of (walk s job es st os ms))
  pub back : read_back (walk_logged s job es st os ms 0 (zero_log room)).log ≡ records_of (walk s job es st os ms)
  pub state : (walk_logged s job es st os ms 0 (zero_log room)).given.state ≡ (walked s job es st os ms).state
  pub end : (walk_logged s job es st os ms 0 (zero_log room)).given.end ≡ end_of (walked s job es st os ms).answer
  pub next : (walk_logged s job es st os ms 0 (zero_log room)).given.next ≡ last_next 0 (walk s job es st os ms)
  pub kept : (walk_logged s job es st os ms 0 (zero_log room)).given.kept ≡ length (records_of (walk s job es st os ms))

-- ---- Any log: item 11, "Appending now goes after the last used record, and compacts first if that one is the last slot"

-- a walk with these counted readings' records to keep, n kept before: what remained remains, and behind it these records, as many as there were unused
-- ones in the log; it ends with a full log exactly when there are more, and then "every record is used"
pub record Adds (l : List ℕ) (n : ℕ) (k : Keeping) (rs : List Record) : Type 0 where
  pub remains : remaining k.log ≡ remaining l ++ take (unused_count l) rs
  pub kept : k.given.kept ≡ n + length (take (unused_count l) rs)
  pub full : (k.given.end ≡ Full) ↔ (unused_count l < length rs)
  pub used : k.given.end ≡ Full → EveryUsed k.log

-- ---- Refusals: 1, 14, 2, 3 and 20 as a reading at that place, then "11 log length no multiple of 16"; it never gives 12

-- the number of a walk's refusal, 0 where it was not refused
abbrev pub end_refusal : LogEnd → ℕ
end_refusal (LogEnd.Refused (ByReading x)) = refusal_number x
end_refusal (LogEnd.Refused (ByLog x)) = log_refusal_number x
end_refusal Nothing = 0
end_refusal Open = 0
end_refusal Full = 0

-- which it gives, exactly when; and a refused walk gives the state and the place it was given, and leaves the log
pub record WalksOrRefuses (s : Settings) (job : ℕ) (es : List Entry) (st : State) (os ms : List ℕ) (p : ℕ) (l : List ℕ) : Type 0 where
  pub reads : 0 < answer_refusal (reading s job es st os ms p).answer
      → end_refusal (walk_logged s job es st os ms p l).given.end ≡ answer_refusal (reading s job es st os ms p).answer
  pub eleven : (end_refusal (walk_logged s job es st os ms p l).given.end ≡ 11)
      ↔ ((answer_refusal (reading s job es st os ms p).answer ≡ 0) × (IsMultiple l → ⊥))
  pub goes : answer_refusal (reading s job es st os ms p).answer ≡ 0 → IsMultiple l → end_refusal (walk_logged s job es st os ms p l).given.end ≡ 0
  pub refused : 0 < end_refusal (walk_logged s job es st os ms p l).given.end
      → walk_logged s job es st os ms p l ≡ stopped (walk_logged s job es st os ms p l).given.end st p 0 l

-- ---- A full log: "12 no unused record", which the walk tells by its end

-- readings that each counted a Start
unfoldable pub AllCounted : List Reading → Type 0
AllCounted [] = Unit {0}
AllCounted (r ∷ rs) = (is_counted r.answer ≡ true) × AllCounted rs

-- where a walk of at most `most` readings found the log full: the readings that it made and kept, the records of these in the log, and the walk's further
-- readings, which go on from its state and next place; the first of those counts a Start, for which there was "no unused record". So nothing is lost.
pub record StopsFull (most : ℕ) (s : Settings) (job : ℕ) (es : List Entry) (st : State) (os ms : List ℕ) (p n : ℕ) (l : List ℕ) (k : Keeping) : Type 0 where
  pub made : List Reading
  pub counted : AllCounted made
  pub kept : k.given.kept ≡ n + length made
  pub log : k.log ≡ append_all l (map record_of_reading made)
  pub further : readings_from most s job es st os ms p ≡ made ++ readings_from (most - length made) s job es k.given.state os ms k.given.next
  pub next : is_counted (reading s job es k.given.state os ms k.given.next).answer ≡ true
  pub full : 0 < logged_refusal (appending k.log (record_of_reading (reading s job es k.given.state os ms k.given.next))).given
