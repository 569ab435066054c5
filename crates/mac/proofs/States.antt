-- What a call does with the state, said once for all calls: one that reads leaves what the frames that it read make of it, and writes nothing; one that
-- sends leaves what sending leaves, and reads nothing. The statement is `does`. Assumes nothing.
use Rattle.std.specs.Prelude.{Err, None, Ok, Option, Some}
use Rattle.station.specs.Numbers.{Checked}
use Rattle.logging.specs.Walks.{KeepChecked}
use Prim.Native.Nat.{ℕ, zero, suc, ◌+◌, ◌-◌}
use native.Mathlib.Omega.{arith}
use mathlib.Core.Path.{◌≡◌, refl, sym, ap, ap₂, ◌∙◌, subst}
use mathlib.Core.Bool.{Bool, true, false, cond}
use mathlib.Core.List.{List, [], ◌∷◌, ◌++◌, append-nil}
use lib.ListN.{length, take, drop}
use lib.Seq.{drop-drop}
use Rattle.line.specs.Line.{Symbol, capture, is_data, find_start, run, ending, AfterStart, unended, ended, ended_by, after_start, MetStart, met_starts}
use Rattle.line.specs.Table.{first}
use Rattle.line.proofs.Starts.{skip_run, met_found}
use Rattle.station.specs.declared.Address.{Address}
use Rattle.station.specs.declared.Settings.{Settings}
use Rattle.station.specs.declared.State.{State}
use Rattle.station.specs.declared.Outcome.{Outcome}
use Rattle.reading_log.specs.Log.{appending}
use Rattle.table.specs.declared.Entry.{Entry}
use Rattle.table.specs.Entries.{mine}
use Rattle.receive.specs.declared.Reading.{Reading}
use Rattle.receive.specs.declared.Walking.{Walking}
use Rattle.receive.specs.Reading.{state_after, read_run, read_start, read_found, read_at, read_refusals, read_checked, reading}
use Rattle.receive.specs.Walk.{walk_of, walked}
use Rattle.receive.proofs.Walks.{through, met_from, walked_from, walked-refused}
use Rattle.kept.specs.declared.Told.{Told}
use Rattle.kept.specs.Kept.{front_of, kept_outcome, kept_told, symbol_refusals}
use Rattle.plain.specs.declared.Plain.{Plain}
use Rattle.plain.specs.Plain.{after_data, after_control, step_checked, step}
use Rattle.logging.specs.Records.{record_of_reading}
use Rattle.logging.specs.Walks.{Keeping, keep_from, keep_refusals, walk_logged}
use Rattle.logging.proofs.Turns.{turn_refused, turn_none, turn_open, by-appending, walk_refused, walk_fine}
use Rattle.send.specs.Sending.{SendCall, written, send_checked}
use Rattle.counting.specs.Claims.{Sends, place_of, symbols_asked, count_after, refusals_of, all_refusals}
use Rattle.counting.proofs.Claims.{sent-by, counted-sent, none-refused}
use Rattle.mac.specs.Calls.{Call, reads, walks, keeps, takes, sends, counts, asks_such, reader, after_call, writes, Read, read_of, reads_of, read_told}
use Rattle.mac.specs.Calls.{unless_refused, start_found, start_read, starts_walked, starts_kept, read_by}
use Rattle.mac.proofs.Walk.{OpenLast, open_last}

-- ---- what frames, read one after the other, make of the state

unfoldable pub after_reads : State → List Read → State
after_reads st [] = st
after_reads st (r ∷ l) = after_reads (state_after r.outcome r.frame st) l

start-state : (s : Settings) (own : List (Option Address)) (st : State) (i : ℕ) (f : AfterStart)
    → (read_start s own st i f).state ≡ after_reads st (read_of s own f)
unfolding read_start read_run read_of after_reads
start-state s own st i unended = refl
start-state s own st i (ended run by) = refl

-- ---- a reading

found_state : (s : Settings) (own : List (Option Address)) (st : State) (c : List Symbol) (f : Option ℕ)
    → (read_found s own st c f).state ≡ after_reads st (reads_of s own (start_found c f))
unfolding read_found start_found reads_of
found_state s own st c None = unfold after_reads in refl
found_state s own st c (Some i) =
    let f : AfterStart = after_start (drop (i + 1) c) in start-state s own st i f ∙ sym (ap (after_reads st) (append-nil (read_of s own f)))

read-state : (s : Settings) (own : List (Option Address)) (st : State) (os ms : List ℕ) (p : ℕ) (r : Checked)
    → (read_checked r s own st os ms p).state ≡ after_reads st (reads_of s own (unless_refused r (start_found (capture os ms) (find_start (capture os ms) p))))
unfolding read_checked read_at unless_refused
read-state s own st os ms p (Err x) = unfold after_reads reads_of in refl
read-state s own st os ms p (Ok _) = found_state s own st (capture os ms) (find_start (capture os ms) p)

-- ---- a walk

through-state : (s : Settings) (own : List (Option Address)) (k n : ℕ) (st : State) (l : List MetStart) → OpenLast l
    → (walk_of k st (through s own st n l)).state ≡ after_reads st (reads_of s own l)
unfolding walk_of through OpenLast reads_of after_reads
through-state s own k n st [] w = refl
through-state s own k n st (m ∷ l) w = one m.follows w.0 (λ st'. through-state s own (k + 1) n st' l w.1)
  where
    one : (f : AfterStart) → (f ≡ unended → l ≡ [])
        → ((st : State) → (walk_of (k + 1) st (through s own st n l)).state ≡ after_reads st (reads_of s own l))
        → (walk_of k st (through s own st n (record { place = m.place; follows = f } ∷ l))).state ≡ after_reads st (read_of s own f ++ reads_of s own l)
    one unended last ih = unfold read_start read_of in sym (ap (λ (x : List MetStart). after_reads st (reads_of s own x)) (last refl))
    one (ended r by) last ih = unfold read_start read_run read_of in ih (read_start s own st m.place (ended r by)).state

walk-state : (s : Settings) (job : ℕ) (es : List Entry) (st : State) (os ms : List ℕ) (r : Checked) → first (read_refusals s job es os ms 0) ≡ r
    → (walked s job es st os ms).state ≡ after_reads st (reads_of s (mine job es) (unless_refused r (met_starts 0 (capture os ms))))
unfolding unless_refused
walk-state s job es st os ms (Err x) e = ap (λ (w : Walking). w.state) (walked-refused s job es st os ms x e) ∙ (unfold after_reads reads_of in refl)
walk-state s job es st os ms (Ok _) e =
    let c : List Symbol = capture os ms in
    sym (ap (λ (w : Walking). w.state) (walked_from s job es st os ms e)) ∙ through-state s (mine job es) 0 (length c) st (met_starts 0 c) (open_last 0 c)

-- ---- a walk that keeps its readings: one Start after the other, as many as it kept

module _ (s : Settings) (job : ℕ) (es : List Entry) (os ms : List ℕ) where
  abbrev own : List (Option Address)
  own = mine job es

  abbrev c : List Symbol
  c = capture os ms

  -- with n kept before, so many more from place p on
  record Kept (st : State) (p n : ℕ) (k : Keeping) : Type 0 where
    more : ℕ
    kept : k.given.kept ≡ n + more
    state : k.given.state ≡ after_reads st (reads_of s own (take more (met_from os ms p)))

  kept-none : (st : State) (p n : ℕ) (k : Keeping) → k.given.kept ≡ n → k.given.state ≡ st → Kept st p n k
  unfolding reads_of after_reads
  kept-none st p n k h e = record { more = 0; kept = omega arith; state = e }

  -- a Start whose run is ended, and those behind that run
  met_next : (p i : ℕ) → find_start c p ≡ Some i → (f : AfterStart) → after_start (drop (i + 1) c) ≡ f
      → met_from os ms p ≡ record { place = i; follows = f } ∷ met_from os ms (i + 1 + length (run (drop (i + 1) c)))
  unfolding find_start
  met_next p i found f e =
      let t : List Symbol = drop (i + 1) c in
      met_found c p (drop p c) i refl found
      ∙ ap₂ (λ (x : AfterStart) (l : List MetStart). record { place = i; follows = x } ∷ l) e
      (skip_run (i + 1) t ∙ ap (met_starts (i + 1 + length (run t))) (drop-drop (length (run t)) (i + 1) c))

  module _ (most : ℕ) (ih : (st : State) (p n : ℕ) (l : List ℕ) → Kept st p n (keep_from most s job es st os ms p n l))
      (st : State) (p n : ℕ) (l : List ℕ) where
    abbrev now : Keeping
    now = keep_from (suc most) s job es st os ms p n l

    none-by : (k : Keeping) → now ≡ k → k.given.kept ≡ n → k.given.state ≡ st → Kept st p n now
    none-by k e h g = kept-none st p n now (ap (λ (x : Keeping). x.given.kept) e ∙ h) (ap (λ (x : Keeping). x.given.state) e ∙ g)

    kept-start : (i : ℕ) → find_start c p ≡ Some i → (e : Option Symbol) → ending (drop (i + 1) c) ≡ e
        → read_start s own st i (ended_by (run (drop (i + 1) c)) e) ≡ reading s job es st os ms p
        → Kept st p n now
    unfolding ended_by after_start read_start read_run read_of reads_of after_reads
    kept-start i found None h is =
        none-by _ (turn_open s job es st os ms p n l (suc most) (omega arith) _ is refl) refl refl
    kept-start i found (Some y) h is =
        let t : List Symbol = drop (i + 1) c in
        let f : AfterStart = ended (run t) y.octet in
        let r : Reading = read_start s own st i f in
        let next : met_from os ms p ≡ record { place = i; follows = f } ∷ met_from os ms r.next =
        met_next p i found f (ap (ended_by (run t)) h) in
        let less : suc most - 1 ≡ most = omega arith in
        let log : List ℕ = (appending l (record_of_reading r)).log in
        by-appending s job es st os ms p n l (suc most) (omega arith) r is _ _ _ _ refl (Kept st p n)
        (subst (λ (m : ℕ). Kept st p n (keep_from m s job es r.state os ms r.next (n + 1) log)) (sym less)
        (let k = ih r.state r.next (n + 1) log in
        let fewer = k.kept in
        record {
          more = suc k.more;
          kept = omega arith;
          state = k.state
              ∙ ap (λ (x : List MetStart). after_reads st (reads_of s own (take (suc k.more) x))) (sym next);
        }))
        (λ x _. kept-none st p n _ refl refl)

    kept_found : (f : Option ℕ) → find_start c p ≡ f → read_found s own st c f ≡ reading s job es st os ms p → Kept st p n now
    unfolding read_found after_start
    kept_found None found is = none-by _ (turn_none s job es st os ms p n l (suc most) (omega arith) _ is refl) refl refl
    kept_found (Some i) found is = kept-start i found (ending (drop (i + 1) c)) refl is

    kept_turn : (k : Checked) → read_checked k s own st os ms p ≡ reading s job es st os ms p → Kept st p n now
    unfolding read_checked read_at
    kept_turn (Err x) is = none-by _ (turn_refused s job es st os ms p n l (suc most) (omega arith) _ is x refl) refl refl
    kept_turn (Ok _) is = kept_found (find_start c p) refl is

  kept_from : (most : ℕ) (st : State) (p n : ℕ) (l : List ℕ) → Kept st p n (keep_from most s job es st os ms p n l)
  unfolding keep_from
  kept_from zero st p n l = kept-none st p n _ refl refl
  kept_from (suc most) st p n l = kept_turn most (kept_from most) st p n l (first (read_refusals s job es os ms p)) (unfold reading in refl)

  keep_state : (st : State) (p : ℕ) (l : List ℕ)
      → (walk_logged s job es st os ms p l).given.state ≡ after_reads st (reads_of s own (starts_kept s job es st os ms p l))
  unfolding starts_kept
  keep_state st p l =
      let w : Keeping = walk_logged s job es st os ms p l in
      let k : Kept st p 0 w = by_checked (first (keep_refusals s job es os ms p l)) refl in
      let all : k.more ≡ w.given.kept = (let e = k.kept in omega arith) in
      k.state ∙ ap (λ (m : ℕ). after_reads st (reads_of s own (take m (met_from os ms p)))) all
    where
      by_checked : (k : KeepChecked) → first (keep_refusals s job es os ms p l) ≡ k → Kept st p 0 (walk_logged s job es st os ms p l)
      by_checked (Err x) e = subst (Kept st p 0) (sym (walk_refused s job es st os ms p l x e)) (kept-none st p 0 _ refl refl)
      by_checked (Ok _) e = subst (Kept st p 0) (sym (walk_fine s job es st os ms p l e)) (kept_from (length os + 1) st p 0 l)

-- ---- a symbol that the plain reader takes

symbol_state : (s : Settings) (own : List (Option Address)) (p : Plain) (x : Symbol) (k : Checked)
    → (step_checked k s own p x).plain.state ≡ after_reads p.state (read_told (step_checked k s own p x).told p.run)
unfolding step_checked after_data after_control kept_told read_told after_reads
symbol_state s own p x (Err y) = refl
symbol_state s own p x (Ok _) = by-mark (is_data x)
  where
    by-run : (b : Bool) (o : Outcome)
        → cond b (state_after o (front_of p.run) p.state) p.state
        ≡ after_reads p.state (read_told (cond b (kept_told s own o p.run) Told.Quiet) p.run)
    by-run true o = refl
    by-run false o = refl

    by-mark : (b : Bool) → let k = cond b (after_data p x.octet) (after_control s own p x.octet) in
        k.plain.state ≡ after_reads p.state (read_told k.told p.run)
    by-mark true = refl
    by-mark false = by-run p.running (kept_outcome s own p.run x.octet)

-- ---- every call

-- with its table answered by k: where that refuses nothing, the table of the call without totals does not either
pub data Does (st : State) (c : Call) : Type 0 where
  by-reading : ((test : Sends → Bool) → asks_such test c ≡ false) → writes st c ≡ [] → after_call st c ≡ after_reads st (read_by st c) → Does st c
  by_sending : (k : Checked) (os ms : List ℕ) (x : Sends) → ((test : Sends → Bool) → asks_such test c ≡ test x) → read_by st c ≡ []
      → (k ≡ Ok tt → first (refusals_of st os ms x) ≡ Ok tt) → writes st c ≡ written k (symbols_asked st x)
      → after_call st c ≡ (send_checked k st os ms (place_of x) (symbols_asked st x) (count_after st x)).given.state
      → Does st c

pub does : (st : State) (c : Call) → Does st c
unfolding asks_such writes after_call read_by start_read starts_walked reading step
does st (reads s job es os ms p) = by-reading (λ _. refl) refl (read-state s (mine job es) st os ms p (first (read_refusals s job es os ms p)))
does st (walks s job es os ms) = by-reading (λ _. refl) refl (walk-state s job es st os ms (first (read_refusals s job es os ms 0)) refl)
does st (keeps s job es os ms p l) = by-reading (λ _. refl) refl (keep_state s job es os ms st p l)
does st (takes s job es at running run x) =
    by-reading (λ _. refl) refl (symbol_state s (mine job es) (reader st at running run) x (first (symbol_refusals s job es at)))
does st (sends os ms c) =
    by_sending (first (refusals_of st os ms c)) os ms c (λ _. refl) refl (λ e. e) refl (ap (λ (x : SendCall). x.given.state) (sent-by st os ms c))
does st (counts l c) =
    by_sending (first (all_refusals st l c)) l.octets l.marks c (λ _. refl) refl (none-refused st l c) refl
    (ap (λ (x : SendCall). x.given.state) (counted-sent st l c))
