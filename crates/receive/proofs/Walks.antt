-- The walk over a capture is the reading of each of its Starts in turn: `walk_through`; and what one turn of the code's loop uses. Assumes nothing.
use Rattle.std.specs.Prelude.{Err, None, Ok, Option, Some}
use Rattle.station.specs.Numbers.{Checked}
use Rattle.receive.specs.Values.{walk_ended}
use Rattle.std.proofs.Common.{◌≡◌, ℕ, zero, suc, ◌+◌, ◌-◌, ◌<◌, ◌≤◌, Bool, true, false, cond, List, [], ◌∷◌, length, get_or, drop, sym, refl, ap, ◌∙◌, ap₂, add-one, arith, length-drop, length-take, drop-drop}
use Rattle.line.specs.Line.{Symbol, capture, find_start, find_control, run, ending, AfterStart, unended, ended, ended_by, after_start, is_start, MetStart, met_starts}
use Rattle.line.specs.Octets.{between}
use Rattle.line.specs.Table.{first}
use Rattle.line.proofs.Starts.{skip_run, met-nothing, met_found, where_range, ending-inside}
use Rattle.line.proofs.Buffers.{length-capture}
use Rattle.line.proofs.Places.{run_found, after_found, after_nothing}
use Rattle.station.specs.declared.Address.{Address}
use Rattle.station.specs.declared.Settings.{Settings}
use Rattle.station.specs.declared.State.{State}
use Rattle.station.specs.declared.Slots.{Slots}
use Rattle.station.specs.declared.Outcome.TheVariants.{WrongFcs, HandedOut}
use Rattle.station.specs.declared.Refusal.{Refusal}
use Rattle.receive.specs.declared.Answer.TheVariants.{Nothing, Open}
use Rattle.receive.specs.declared.Reading.{Reading}
use Rattle.receive.specs.declared.Walking.{Walking}
use Rattle.table.specs.declared.Entry.{Entry}
use Rattle.table.specs.Entries.{mine}
use Rattle.frame.specs.Frame.{wrong_fcs}
use Rattle.flow.specs.Timers.{timers_after, sets_timers}
use Rattle.flow.proofs.Stays.{stays}
use Rattle.outcome.specs.Outcomes.{outcome, frame_of}
use Rattle.outcome.specs.Plain.{opening_of, Plain, plain_outcome}
use Rattle.outcome.proofs.Plain.{plain_outcome_lem}
use Rattle.receive.specs.Reading.{state_after, read_run, read_start, read_found, read_at, read_refusals, read_checked, reading}
use Rattle.receive.specs.Values.{is_counted}
use Rattle.receive.specs.Walk.{readings_from, walk, walk_of, walked}
use Rattle.receive.proofs.Refusals.{passed, still_fine}

-- ---- the walk over the Starts that a capture has

-- the reading of each Start in turn, and `none` at the end; an open one is the last
unfoldable pub through : Settings → List (Option Address) → State → ℕ → List MetStart → List Reading
through s own st n [] = record { answer = Nothing; start = n; next = n; state = st } ∷ []
through s own st n (m ∷ ms) =
    let r : Reading = read_start s own st m.place m.follows in
    r ∷ elim (is_counted r.answer) [ true ↦ through s own r.state n ms | false ↦ [] ]

-- the reading of a Start whose run is ended, and of one whose run is not
module _ (s : Settings) (own : List (Option Address)) (st : State) (n : ℕ) where
  pub through-ended : (i : ℕ) (r : List ℕ) (by : ℕ) (ms : List MetStart)
      → through s own st n (record { place = i; follows = ended r by } ∷ ms)
      ≡ read_start s own st i (ended r by) ∷ through s own (read_start s own st i (ended r by)).state n ms
  unfolding through read_start read_run
  through-ended i r by ms = refl

  pub through-unended : (i : ℕ) (ms : List MetStart)
      → through s own st n (record { place = i; follows = unended } ∷ ms) ≡ record { answer = Open; start = i; next = i; state = st } ∷ []
  unfolding through read_start
  through-unended i ms = refl

module _ (s : Settings) (job : ℕ) (es : List Entry) (os ms : List ℕ) (fine : first (read_refusals s job es os ms 0) ≡ Ok tt) where
  abbrev own : List (Option Address)
  own = mine job es

  abbrev c : List Symbol
  c = capture os ms

  same_length : length c ≡ length os
  same_length = length-capture os ms (passed s job es os ms 0 fine).even

  -- a reading that is not refused
  reading-is : (st : State) (p : ℕ) → p ≤ length os → reading s job es st os ms p ≡ read_at s own st c p
  unfolding reading read_checked
  reading-is st p h = ap (λ (k : Checked). read_checked k s own st os ms p) (still_fine s job es os ms 0 p fine h)

  -- the readings that follow a reading r
  abbrev then : ℕ → Reading → List Reading
  then most r = r ∷ elim (is_counted r.answer) [ true ↦ readings_from most s job es r.state os ms r.next | false ↦ [] ]

  abbrev Rest : ℕ → Type 0
  Rest most =
      (st : State) (p : ℕ) → p ≤ length c → length c < p + most
      → readings_from most s job es st os ms p ≡ through s own st (length c) (met_starts p (drop p c))

  at-start : (most : ℕ) → Rest most → (st : State) (i : ℕ) → length c < i + suc most → (e : Option Symbol) → ending (drop (i + 1) c) ≡ e
      → then most (read_start s own st i (ended_by (run (drop (i + 1) c)) e))
      ≡ through s own st (length c) (record { place = i; follows = ended_by (run (drop (i + 1) c)) e } ∷ met_starts (i + 1) (drop (i + 1) c))
  unfolding ended_by through read_start read_run
  at-start most ih st i enough None h = refl
  at-start most ih st i enough (Some y) h =
      let t : List Symbol = drop (i + 1) c in
      let r : Reading = read_start s own st i (ended (run t) y.octet) in
      let inside = ending-inside t y h in
      let left = length-drop (i + 1) c in
      let skipped : met_starts (i + 1) t ≡ met_starts (i + 1 + length (run t)) (drop (i + 1 + length (run t)) c) =
      skip_run (i + 1) t ∙ ap (met_starts (i + 1 + length (run t))) (drop-drop (length (run t)) (i + 1) c) in
      ap (λ (l : List Reading). r ∷ l)
      (ih r.state (i + 1 + length (run t)) (omega arith) (omega arith) ∙ ap (through s own r.state (length c)) (sym skipped))

  found : (most : ℕ) → Rest most → (st : State) (p : ℕ) → length c < p + suc most → (f : Option ℕ) → find_start c p ≡ f
      → then most (read_found s own st c f) ≡ through s own st (length c) (met_starts p (drop p c))
  unfolding read_found find_start after_start through
  found most ih st p enough None e = sym (ap (through s own st (length c)) (met-nothing p (drop p c) e))
  found most ih st p enough (Some i) e =
      let k = where_range is_start p (drop p c) i e in
      at-start most ih st i (omega arith) (ending (drop (i + 1) c)) refl ∙ sym (ap (through s own st (length c)) (met_found c p (drop p c) i refl e))

  from_place : (most : ℕ) → Rest most
  unfolding readings_from read_at
  from_place zero st p h enough = absurd (omega arith)
  from_place (suc most) st p h enough =
      ap (then most) (reading-is st p (let e = same_length in omega arith)) ∙ found most (from_place most) st p enough (find_start c p) refl

  -- the walk is the reading of each Start in turn
  pub walk_through : (st : State) → walk s job es st os ms ≡ through s own st (length c) (met_starts 0 c)
  unfolding walk
  walk_through st = let e = same_length in from_place (length os + 1) st 0 (omega arith) (omega arith)

-- ---- one turn of a loop over a capture

-- the Starts from place p on
abbrev pub met_from : List ℕ → List ℕ → ℕ → List MetStart
met_from os ms p = met_starts p (drop p (capture os ms))

-- no Start stands between a Start and the end of its run
to_the_end : (os ms : List ℕ) → length os ≡ length ms → (i e : ℕ) → find_control (capture os ms) (i + 1) ≡ Some e → i + 1 ≤ e → e < length os
    → met_from os ms (i + 1) ≡ met_from os ms e
to_the_end os ms same i e h low high =
    let t : List Symbol = drop (i + 1) (capture os ms) in
    let n : length (run t) ≡ e - (i + 1) =
    ap length (run_found os ms same (i + 1) e h).0 ∙ (unfold between in simp (length-take, length-drop) (omega arith))
    in
    let place : i + 1 + (e - (i + 1)) ≡ e = omega arith in
    skip_run (i + 1) t
    ∙ ap (λ (k : ℕ). met_starts (i + 1 + k) (drop k t)) n
    ∙ ap₂ met_starts place (drop-drop (e - (i + 1)) (i + 1) (capture os ms) ∙ ap (λ (k : ℕ). drop k (capture os ms)) place)

-- what the two searches of a turn say of them: none; one whose run is open; one whose run is ended, and those from its end on
module _ (os ms : List ℕ) (p : ℕ) where
  pub met-none : find_start (capture os ms) p ≡ None → met_from os ms p ≡ []
  unfolding find_start
  met-none h = met-nothing p (drop p (capture os ms)) h

  module _ (i : ℕ) (found : find_start (capture os ms) p ≡ Some i) where
    met_by : (f : AfterStart) → after_start (drop (i + 1) (capture os ms)) ≡ f → met_from os ms p ≡ record { place = i; follows = f } ∷ met_from os ms (i + 1)
    unfolding find_start
    met_by f e =
        met_found (capture os ms) p (drop p (capture os ms)) i refl found
        ∙ ap (λ (x : AfterStart). record { place = i; follows = x } ∷ met_from os ms (i + 1)) e

    pub met_open : find_control (capture os ms) (i + 1) ≡ None → met_from os ms p ≡ record { place = i; follows = unended } ∷ met_from os ms (i + 1)
    met_open h = met_by unended (after_nothing os ms (i + 1) h)

    pub met-ended : (same : length os ≡ length ms) (e : ℕ) → find_control (capture os ms) (i + 1) ≡ Some e → i + 1 ≤ e → e < length os
        → met_from os ms p ≡ record { place = i; follows = ended (between os (i + 1) e) (get_or os e 0) } ∷ met_from os ms e
    met-ended same e h low high =
        let f : AfterStart = ended (between os (i + 1) e) (get_or os e 0) in
        met_by f (after_found os ms same (i + 1) e h)
        ∙ ap (λ (l : List MetStart). record { place = i; follows = f } ∷ l) (to_the_end os ms same i e h low high)

-- what is left of a walk at place p, with n Starts counted
abbrev pub left : Settings → List (Option Address) → List ℕ → List ℕ → ℕ → State → ℕ → Walking
left s own os ms n st p = walk_of n st (through s own st (length (capture os ms)) (met_from os ms p))

module _ (s : Settings) (own : List (Option Address)) (os ms : List ℕ) (n : ℕ) (st : State) (p : ℕ) where
  abbrev over : List MetStart → Walking
  over l = walk_of n st (through s own st (length (capture os ms)) l)

  pub turn_none : find_start (capture os ms) p ≡ None → left s own os ms n st p ≡ record { answer = walk_ended n false; state = st }
  unfolding walk_of through
  turn_none h = ap over (met-none os ms p h)

  module _ (i : ℕ) (found : find_start (capture os ms) p ≡ Some i) where
    pub turn_open : find_control (capture os ms) (i + 1) ≡ None → left s own os ms n st p ≡ record { answer = walk_ended n true; state = st }
    unfolding walk_of through read_start
    turn_open h = ap over (met_open os ms p i found h)

    pub turn_ended : (same : length os ≡ length ms) (e : ℕ) → find_control (capture os ms) (i + 1) ≡ Some e → i + 1 ≤ e → e < length os
        → let r : List ℕ = between os (i + 1) e in
        left s own os ms n st p ≡ left s own os ms (n + 1) (state_after (outcome s own r (get_or os e 0)) (frame_of r) st) e
    unfolding walk_of through read_start read_run
    turn_ended same e h low high = ap over (met-ended os ms p i found same e h low high)

-- a plain frame sets no timer
pub plain_stays : (s : Settings) (es : List (Option Address)) (r : List ℕ) (by : ℕ) → Plain (opening_of s.own) s.limit r by
    → (ts : List Slots) → ts ≡ timers_after (outcome s es r by) (frame_of r) ts
unfolding plain_outcome sets_timers
plain_stays s es r by p ts = stays _ (frame_of r) ts (ap sets_timers (plain_outcome_lem s es r by p) ∙ either (wrong_fcs (frame_of r)))
  where
    either : (b : Bool) → sets_timers (cond b WrongFcs HandedOut) ≡ false
    either true = refl
    either false = refl

-- the walk in one call, from its first turn
pub walked_from : (s : Settings) (job : ℕ) (es : List Entry) (st : State) (os ms : List ℕ) → first (read_refusals s job es os ms 0) ≡ Ok tt
    → left s (mine job es) os ms 0 st 0 ≡ walked s job es st os ms
unfolding walked
walked_from s job es st os ms fine = sym (ap (walk_of 0 st) (walk_through s job es os ms fine st))

-- a walk whose first reading is refused
pub walked-refused : (s : Settings) (job : ℕ) (es : List Entry) (st : State) (os ms : List ℕ) (x : Refusal) → first (read_refusals s job es os ms 0) ≡ Err x
    → walked s job es st os ms ≡ record { answer = Err x; state = st }
unfolding walked walk reading readings_from walk_of read_checked
walked-refused s job es st os ms x e =
    ap (λ (n : ℕ). walk_of 0 st (readings_from n s job es st os ms 0)) (add-one (length os))
    ∙ ap (λ (r : Reading). walk_of 0 st (r ∷ elim (is_counted r.answer) [ true ↦ readings_from (length os) s job es r.state os ms r.next | false ↦ [] ]))
    (ap (λ (k : Checked). read_checked k s (mine job es) st os ms 0) e)
