-- What the arrays' meanings keep: a part handed over as place and length is the module's own client data; a state that crossed back is the
-- same state, and a size table the same numbers; the record of a reading is the same by its numbers; a record of a log is given out as it stands there;
-- what why tells of a Start beside its reason is what a reading tells. Assume nothing.
use Rattle.std.specs.Prelude.{Err, None, Ok, Option, Some}
use Rattle.station.specs.Numbers.{Checked}
use Prim.Native.Nat.{ℕ, zero, suc, ◌+◌, ◌-◌, ◌%◌, ◌^◌, ◌<◌, ◌≤◌}
use native.Mathlib.Nat.{mod-eq_of_lt}
use native.Mathlib.Omega.{arith}
use native.Mathlib.Numerals.{add-one}
use mathlib.Core.Path.{◌≡◌, refl, sym, ap, ap₂, ◌∙◌, subst}
use mathlib.Core.List.{List, [], ◌∷◌}
use lib.ListN.{length, get_or, take, drop}
use lib.Dec.{leb, lit<}
use Rattle.line.specs.Line.{capture, find_start, find_control}
use Rattle.line.specs.Table.{first}
use Rattle.line.proofs.Symbols.{by_test}
use Rattle.station.specs.declared.Slots.{Slots}
use Rattle.station.specs.declared.State.{State}
use Rattle.station.specs.declared.Settings.{Settings}
use Rattle.station.specs.declared.Outcome.{Outcome}
use Rattle.station.specs.declared.Outcome.TheVariants.{Cut, BadPreamble, Undersized, Oversized, WrongFcs, WrongLength, Filtered}
use Rattle.station.specs.declared.Outcome.TheVariants.{PauseTaken, PfcTaken, ControlDropped, HandedOut}
use Rattle.station.specs.Numbers.{outcome_number}
use Rattle.flow.specs.Timers.{timer}
use Rattle.table.specs.declared.Entry.{Entry}
use Rattle.table.specs.Entries.{mine, entries_of}
use Rattle.table.proofs.Entries.{sixteen}
use Rattle.receive.specs.declared.Answer.{Answer}
use Rattle.receive.specs.declared.Answer.TheVariants.{Counted}
use Rattle.receive.specs.declared.Reading.{Reading}
use Rattle.receive.specs.Values.{answer_outcome, answer_status, answer_part, answer_way}
use Rattle.receive.specs.Reading.{part_of, read_refusals, read_run, reading}
use Rattle.receive.proofs.Cases.{read-refused, read_none, read_open, read-ended}
use Rattle.reason.specs.declared.Explained.{Explained}
use Rattle.reason.specs.Reasons.{explained}
use Rattle.reason.proofs.Laws.{explain_refused, explain_none, explain_open, explain_ended}
use Rattle.reason.proofs.Claims.{explain_reads}
use Rattle.reading_log.specs.Log.{record_of, slot_at, record_read}
use Rattle.reading_log.specs.Claims.{OfOctets, IsMultiple, Used}
use Rattle.reading_log.proofs.Searches.{slot_stands}
use Rattle.reading_log.proofs.Calls.{good_log, read-used}
use Rattle.logging.specs.Records.{record_at, record_of_reading}
use Rattle.logging.proofs.Readings.{reading_sound}
use Rattle.crossing.specs.Records.{at_places, low_at, counters_of, timers_of, state_of, state_numbers, part_within, record_named}
use Rattle.crossing.specs.Records.{answer_kind, reading_numbers, why_kind, explain_numbers}
use Rattle.crossing.specs.Given.{record_left}
use Rattle.crossing.specs.Bands.{sizes_of, sizes_numbers}

-- the octets from the place, so many of them, are what `client_data` hands out
pub part-is : (os : List ℕ) (at len : ℕ)
    → take (get_or (part_within (length os) at len) 1 0) (drop (get_or (part_within (length os) at len) 0 0) os) ≡ part_of os (record { at = at; len = len })
unfolding part_within part_of
part-is os at len =
    by_test (leb at (length os)) (λ e. by_test (leb len (length os - at)) (λ g. rw (e, g)) (λ g. rw (e, g))) (λ e. rw e)

-- ---- the values of a function at places in a row

each_same : {A : Type 0} (f g : ℕ → A) → ((i : ℕ) → f i ≡ g i) → (at n : ℕ) → at_places f at n ≡ at_places g at n
unfolding at_places
each_same f g h at zero = refl
each_same f g h at (suc n) = ap₂ ◌∷◌ (h at) (each_same f g h (at + 1) n)

each-later : {A : Type 0} (f : ℕ → A) (at n : ℕ) → at_places f (at + 1) n ≡ at_places (λ (i : ℕ). f (i + 1)) at n
unfolding at_places
each-later f at zero = refl
each-later f at (suc n) = ap (λ (l : List _). f (at + 1) ∷ l) (each-later f (at + 1) n)

each_all : {A : Type 0} (d : A) (l : List A) → at_places (λ (i : ℕ). get_or l i d) 0 (length l) ≡ l
unfolding at_places
each_all d [] = refl
each_all d (x ∷ xs) =
    ap (λ (l : List _). x ∷ l)
    (each-later (λ (i : ℕ). get_or (x ∷ xs) i d) 0 (length xs)
    ∙ each_same (λ (i : ℕ). get_or (x ∷ xs) (i + 1) d) (λ (i : ℕ). get_or xs i d) (λ (i : ℕ). rw add-one) 0 (length xs)
    ∙ each_all d xs)

-- ---- a state that crosses back: counters and deficit count cross whole, and a timer of 32 bits is its own low 32 bits

pub state_crosses : (st : State) → length st.counters ≡ 11 → length st.timers ≡ 8
    → ((i : ℕ) → (timer st.timers i).0 % 4294967296 ≡ (timer st.timers i).0) → state_of (state_numbers st) ≡ st
unfolding state_of counters_of timers_of state_numbers at_places low_at timer
state_crosses st eleven eight timers =
    let cs : counters_of (state_numbers st) ≡ st.counters = rw eleven at (each_all 0 st.counters) in
    let ts : timers_of (state_numbers st) ≡ st.timers =
    each_same (λ (i : ℕ). record { 0 = (timer st.timers i).0 % 4294967296 }) (timer st.timers) (λ (i : ℕ). ap (λ (n : ℕ). record { 0 = n }) (timers i)) 0 8
    ∙ rw eight at (each_all (record { 0 = 0 }) st.timers)
    in
    ap₂ (λ (c : List ℕ) (t : List Slots). record { counters = c; timers = t; deficit = st.deficit }) cs ts

-- the deficit count crosses whole, to the module and back
pub deficit_crosses : (l : List ℕ) (st : State) → ((state_of l).deficit ≡ get_or l 19 0) × (get_or (state_numbers st) 19 0 ≡ st.deficit)
unfolding state_of state_numbers at_places
deficit_crosses l st = (refl, refl)

-- a size table crosses whole, to the module and back
pub sizes_cross : (l : List ℕ) → length l ≡ 14 → sizes_numbers (sizes_of l) ≡ l
unfolding sizes_of sizes_numbers at_places
sizes_cross l fourteen = rw fourteen at (each_all 0 l)

-- ---- records of a log

-- of a reading that crossed, the record that is appended is the reading's own
outcome_low : (a : Answer) → answer_outcome a % 256 ≡ answer_outcome a
outcome_low (Answer.Refused x) = refl
outcome_low Answer.Nothing = refl
outcome_low Answer.Open = refl
outcome_low (Counted o w p v) = number_low o
  where
    number_low : (o : Outcome) → outcome_number o % 256 ≡ outcome_number o
    number_low Cut = refl
    number_low BadPreamble = refl
    number_low Undersized = refl
    number_low Oversized = refl
    number_low WrongFcs = refl
    number_low WrongLength = refl
    number_low Filtered = refl
    number_low PauseTaken = refl
    number_low PfcTaken = refl
    number_low ControlDropped = refl
    number_low HandedOut = refl

-- where the number of the address is one of 8 bits
same_record : (r : Reading) → answer_way r.answer < 2 ^ 8 → record_named (reading_numbers r) ≡ record_of_reading r
unfolding record_named reading_numbers record_of_reading low_at
same_record r h =
    ap₂ (λ (n v : ℕ). record_at r.start n v (answer_part r.answer).len (answer_status r.answer)) (outcome_low r.answer) (mod-eq_of_lt h)

-- which it is of every reading by a table of 16 entries
way-small : (s : Settings) (job : ℕ) (es : List Entry) (st : State) (os ms : List ℕ) (p : ℕ) → length (mine job es) ≤ 16
    → answer_way (reading s job es st os ms p).answer < 2 ^ 8
way-small s job es st os ms p few = by_checked (first (read_refusals s job es os ms p)) refl
  where
    by_checked : (k : Checked) → first (read_refusals s job es os ms p) ≡ k → answer_way (reading s job es st os ms p).answer < 2 ^ 8
    by_checked (Err x) e = subst (λ (r : Reading). answer_way r.answer < 2 ^ 8) (sym (read-refused s job es st os ms p x e)) (lit< tt)
    by_checked (Ok _) e = (reading_sound s job es st os ms p e).way few

pub reading_record : (s : Settings) (job : ℕ) (t : List ℕ) (st : State) (os ms : List ℕ) (p : ℕ)
    → record_named (reading_numbers (reading s job (entries_of t) st os ms p)) ≡ record_of_reading (reading s job (entries_of t) st os ms p)
reading_record s job t st os ms p =
    same_record (reading s job (entries_of t) st os ms p) (way-small s job (entries_of t) st os ms p (omega (arith, sixteen job t)))

-- a record that is read is given out as its octets stand in the log, and is the same where these cross to the module again
module _ (l before : List ℕ) (k : ℕ) (octets : OfOctets l) (good : IsMultiple l) (used : Used l k) where
  pub record_given_lem : record_left before (record_read l k) ≡ slot_at l k
  unfolding record_left
  record_given_lem = ap (record_left before) (read-used l k (good_log l good) used) ∙ slot_stands l k octets good used

  pub record_crosses : Ok (record_of (record_left before (record_read l k))) ≡ record_read l k
  record_crosses = ap (λ (s : List ℕ). Ok (record_of s)) record_given_lem ∙ sym (read-used l k (good_log l good) used)

-- ---- why a Start has its outcome: refusal, kind, outcome and both places are a reading's from there, whatever its state

module _ (s : Settings) (job : ℕ) (es : List Entry) (st : State) (os ms : List ℕ) (p : ℕ) where
  abbrev SameKind : Type 0
  SameKind = why_kind (explained s job es os ms p).answer ≡ answer_kind (reading s job es st os ms p).answer

  kind_of_lem : (e : Explained) (r : Reading) → explained s job es os ms p ≡ e → reading s job es st os ms p ≡ r
      → why_kind e.answer ≡ answer_kind r.answer → SameKind
  kind_of_lem e r f g h = rw (f, g) h

  module _ (fine : first (read_refusals s job es os ms p) ≡ Ok tt) where
    module _ (i : ℕ) (found : find_start (capture os ms) p ≡ Some i) where
      kind_ended : (x : Option ℕ) → find_control (capture os ms) (i + 1) ≡ x → SameKind
      unfolding read_run
      kind_ended None h = kind_of_lem _ _ (explain_open s job es os ms p fine i found h) (read_open s job es st os ms p fine i found h) refl
      kind_ended (Some e) h = kind_of_lem _ _ (explain_ended s job es os ms p fine i found e h) (read-ended s job es st os ms p fine i found e h) refl

    kind_found : (x : Option ℕ) → find_start (capture os ms) p ≡ x → SameKind
    kind_found None h = kind_of_lem _ _ (explain_none s job es os ms p fine h) (read_none s job es st os ms p fine h) refl
    kind_found (Some i) h = kind_ended i h (find_control (capture os ms) (i + 1)) refl

  kind_checked : (k : Checked) → first (read_refusals s job es os ms p) ≡ k → SameKind
  kind_checked (Ok _) h = kind_found h (find_start (capture os ms) p) refl
  kind_checked (Err x) h = kind_of_lem _ _ (explain_refused s job es os ms p x h) (read-refused s job es st os ms p x h) refl

  pub explain_crosses : take 5 (explain_numbers (explained s job es os ms p)) ≡ take 5 (reading_numbers (reading s job es st os ms p))
  unfolding explain_numbers reading_numbers
  explain_crosses =
      let w = explain_reads s job es st os ms p in
      let k = kind_checked (first (read_refusals s job es os ms p)) refl in
      cc (w.refusal, k, w.outcome, w.start, w.next)
