-- Document 02, item 12: over any capture that a walk reads, the reader that takes one symbol at a time reads what the walk reads: the same readings in
-- order, each with its state, and at the end `none` or `open`: `plain_walks`. So it tells what the walk's readings say (`plain_tells`), ends with the walk's
-- counters and timers, and has a run in progress exactly when the walk ended `open` (`plain_ends`). It has then taken as many symbols as there are, so that
-- refusal 2 is for the symbol after 65,536 of them (`plain_place`). Assumes nothing.
use Rattle.std.specs.Prelude.{Ok, Option}
use Rattle.station.specs.Numbers.{Checked}
use Rattle.receive.specs.Values.{walk_ended}
use Rattle.std.proofs.Common.{◌≡◌, ℕ, ◌+◌, ◌<◌, ◌≤◌, true, false, eqb, List, [], ◌∷◌, ◌++◌, length, sym, refl, ap, ◌∙◌, subst, ap₂, append_assoc, append-nil, arith, length-append}
use Rattle.line.specs.Limits.{most_symbols}
use Rattle.line.specs.Line.{Symbol, capture, is_data, is_control, is_start, start, run, ending, ended_by, after_start, met_starts}
use Rattle.line.specs.Table.{first}
use Rattle.line.proofs.Symbols.{by_test, data_not-start, met_start, met-other, run_data, run_control, ending_data, ending_control}
use Rattle.line.proofs.Buffers.{length-capture}
use Rattle.station.specs.declared.Address.{Address}
use Rattle.station.specs.declared.Settings.{Settings}
use Rattle.station.specs.declared.State.{State}
use Rattle.station.specs.declared.Part.{Part}
use Rattle.station.specs.declared.Outcome.{Outcome}
use Rattle.station.specs.Station.{bad_settings}
use Rattle.table.specs.declared.Entry.{Entry}
use Rattle.table.specs.Entries.{mine}
use Rattle.table.specs.Tests.{bad_job, bad_table}
use Rattle.control.specs.Control.{way_carried}
use Rattle.flow.proofs.TimerLaws.{length-timers_after}
use Rattle.outcome.specs.Outcomes.{outcome, frame_of}
use Rattle.outcome.specs.Status.{status}
use Rattle.receive.specs.declared.Answer.TheVariants.{Counted}
use Rattle.receive.specs.declared.Reading.{Reading}
use Rattle.receive.specs.Reading.{state_after, handed_part, read_run, read_start, read_refusals}
use Rattle.receive.specs.Walk.{walk, walk_of, walked}
use Rattle.receive.proofs.Refusals.{own-single, passed}
use Rattle.receive.proofs.Walks.{through, through-ended, walk_through}
use Rattle.kept.specs.declared.Run.{Run}
use Rattle.kept.specs.declared.Told.{Told}
use Rattle.kept.specs.declared.Told.TheVariants.{Quiet}
use Rattle.kept.specs.Kept.{begun}
use Rattle.kept.proofs.Laws.{symbol_fine}
use Rattle.kept.proofs.Keeps.{Keeps, keeps-begun, keeps-outcome, keeps-told, keeps-state}
use Rattle.plain.specs.declared.Plain.{Plain}
use Rattle.plain.specs.declared.Step.{Step}
use Rattle.plain.specs.Plain.{fresh_plain, grown, after_data, after_control, step_checked, step}
use Rattle.plain.specs.Fed.{fed, unless_quiet, tellings, telling_of, tellings_of, plain_end, plain_reading, plain_last, plain_readings}
use Rattle.plain.proofs.Growth.{keeps-grown}

-- the reader, outside a run and in one, and behind a control symbol at a place
abbrev resting : ℕ → Run → State → Plain
resting at q st = record { place = at; running = false; run = q; state = st }

abbrev running : ℕ → Run → State → Plain
running at q st = record { place = at; running = true; run = q; state = st }

abbrev behind : ℕ → ℕ → State → Plain
behind at o st = record { place = at + 1; running = eqb o start; run = begun at; state = st }

eight_after : (o : Outcome) (f : List ℕ) (st : State) → length st.timers ≡ 8 → length (state_after o f st).timers ≡ 8
unfolding state_after
eight_after o f st h = length-timers_after o f st.timers ∙ h

start_is : (x : Symbol) → is_data x ≡ false → is_start x ≡ eqb x.octet start
unfolding is_start is_control
start_is x d = rw d

module _ (s : Settings) (job : ℕ) (es : List Entry) where
  abbrev own : List (Option Address)
  own = mine job es

  -- what the claims say of a reader p at place `at`, of the symbols that are left, and of the readings that are
  record Ends (p : Plain) (at : ℕ) (xs : List Symbol) (rs : List Reading) : Type 0 where
    reads : plain_readings s job es p xs ≡ rs
    tells : tellings s job es p xs ≡ tellings_of rs
    ends : (n : ℕ) (st : State) → walk_of n st rs ≡ plain_end (n + length (tellings s job es p xs)) (fed s job es p xs)
    taken : (fed s job es p xs).place ≡ at + length xs

  -- ---- one symbol, at which nothing is told, or a Start is counted

  module _ (p p' : Plain) (at : ℕ) (x : Symbol) (xs : List Symbol) where
    quiet_on : (rs : List Reading) → step s job es p x ≡ record { told = Quiet; plain = p' } → Ends p' (at + 1) xs rs → Ends p at (x ∷ xs) rs
    unfolding plain_readings plain_reading tellings fed unless_quiet
    quiet_on rs e h =
        let t : tellings s job es p (x ∷ xs) ≡ tellings s job es p' xs =
        ap (λ (k : Step). unless_quiet k.told ++ tellings s job es k.plain xs) e in
        let d : fed s job es p (x ∷ xs) ≡ fed s job es p' xs = ap (λ (k : Step). fed s job es k.plain xs) e in
        record {
          reads = ap (λ (k : Step). plain_reading p k (plain_readings s job es k.plain xs)) e ∙ h.reads;
          tells = t ∙ h.tells;
          ends = λ n st. h.ends n st ∙ ap₂ (λ (l : List Told) (y : Plain). plain_end (n + length l) y) (sym t) (sym d);
          taken = ap (λ (y : Plain). y.place) d ∙ h.taken ∙ omega arith;
        }

    counted_on : (o : Outcome) (w : ℕ) (q : Part) (v : ℕ) (rs : List Reading) → step s job es p x ≡ record { told = Told.Counted o w q v; plain = p' }
        → Ends p' (at + 1) xs rs
        → Ends p at (x ∷ xs) (record { answer = Counted o w q v; start = p.run.start; next = p.place; state = p'.state } ∷ rs)
    unfolding plain_readings plain_reading tellings fed unless_quiet tellings_of telling_of walk_of
    counted_on o w q v rs e h =
        let t : tellings s job es p (x ∷ xs) ≡ Told.Counted o w q v ∷ tellings s job es p' xs =
        ap (λ (k : Step). unless_quiet k.told ++ tellings s job es k.plain xs) e in
        let d : fed s job es p (x ∷ xs) ≡ fed s job es p' xs = ap (λ (k : Step). fed s job es k.plain xs) e in
        let r : Reading = record { answer = Counted o w q v; start = p.run.start; next = p.place; state = p'.state } in
        let one_more : (n : ℕ) → n + 1 + length (tellings s job es p' xs) ≡ n + length (tellings s job es p (x ∷ xs)) =
        λ n. (let z = ap length t in omega arith) in
        record {
          reads = ap (λ (k : Step). plain_reading p k (plain_readings s job es k.plain xs)) e ∙ ap (λ (l : List Reading). r ∷ l) h.reads;
          tells = t ∙ ap (λ (l : List Told). Told.Counted o w q v ∷ l) h.tells;
          ends = λ n st. h.ends (n + 1) p'.state ∙ ap₂ (λ (m : ℕ) (y : Plain). plain_end m y) (one_more n) (sym d);
          taken = ap (λ (y : Plain). y.place) d ∙ h.taken ∙ omega arith;
        }

  module _ (valid : bad_settings s ≡ false) (known : bad_job job ≡ false) (sound : bad_table es ≡ false) where
    -- a symbol that is not refused
    steps : (p : Plain) (x : Symbol) → p.place < most_symbols → step s job es p x ≡ step_checked (Ok tt) s own p x
    unfolding step
    steps p x h = ap (λ (k : Checked). step_checked k s own p x) (symbol_fine s job es p.place valid known sound h)

    step_data : (p : Plain) (x : Symbol) → p.place < most_symbols → is_data x ≡ true → step s job es p x ≡ after_data p x.octet
    unfolding step_checked
    step_data p x h d = steps p x h ∙ rw d

    step_control : (p : Plain) (x : Symbol) → p.place < most_symbols → is_data x ≡ false → step s job es p x ≡ after_control s own p x.octet
    unfolding step_checked
    step_control p x h d = steps p x h ∙ rw d

    -- n symbols in all
    module _ (n : ℕ) (few : n ≤ most_symbols) where
      -- what holds of the symbols that are left, outside a run and in one
      record Both (xs : List Symbol) : Type 0 where
        out : (at : ℕ) (q : Run) (st : State) → at + length xs ≡ n → length st.timers ≡ 8
            → Ends (resting at q st) at xs (through s own st n (met_starts at xs))
        inside : (at : ℕ) (q : Run) (st : State) (r : List ℕ) → at + length xs ≡ n → length st.timers ≡ 8 → Keeps q r → q.start + 1 + length r ≡ at
            → Ends (running at q st) at xs (through s own st n (record { place = q.start; follows = ended_by (r ++ run xs) (ending xs) } ∷ met_starts at xs))

      -- behind a control symbol
      control_on : (x : Symbol) (xs : List Symbol) → Both xs → is_data x ≡ false → (at : ℕ) (st : State) → at + 1 + length xs ≡ n → length st.timers ≡ 8
          → Ends (behind at x.octet st) (at + 1) xs (through s own st n (met_starts at (x ∷ xs)))
      unfolding begun after_start
      control_on x xs ih d at st fits eight =
          by_test (is_start x)
          (λ h. let e : eqb x.octet start ≡ true = sym (start_is x d) ∙ h in
          rw (e, met_start at x xs h)
          (ih.inside (at + 1) (begun at) st [] fits eight (keeps-begun at) (omega arith)))
          (λ h. let e : eqb x.octet start ≡ false = sym (start_is x d) ∙ h in
          rw (e, met-other at x xs h) (ih.out (at + 1) (begun at) st fits eight))

      none_left : Both []
      unfolding plain_readings plain_last tellings fed tellings_of telling_of walk_of plain_end through met_starts run ending ended_by read_start
      none_left =
          let none : (m : ℕ) → m ≡ m + 0 = λ m. omega arith in
          record {
            out =
                λ at q st fits eight.
                record {
                  reads = (let e : at ≡ n = omega arith in rw e);
                  tells = refl;
                  ends = λ m st'. ap (λ (k : ℕ). record { answer = walk_ended k false; state = st }) (none m);
                  taken = omega arith;
                };
            inside =
                λ at q st r fits eight k l.
                record {
                  reads = refl;
                  tells = refl;
                  ends = λ m st'. ap (λ (k : ℕ). record { answer = walk_ended k true; state = st }) (none m);
                  taken = omega arith;
                };
          }

      module _ (x : Symbol) (xs : List Symbol) (ih : Both xs) (at : ℕ) (q : Run) (st : State)
          (fits : at + length (x ∷ xs) ≡ n) (eight : length st.timers ≡ 8) where
        out_data : is_data x ≡ true → Ends (resting at q st) at (x ∷ xs) (through s own st n (met_starts at (x ∷ xs)))
        unfolding after_data
        out_data d =
            quiet_on (resting at q st) (resting (at + 1) (grown q x.octet) st) at x xs (through s own st n (met_starts at (x ∷ xs)))
            (step_data (resting at q st) x (omega arith) d)
            (rw (met-other at x xs (data_not-start x d)) (ih.out (at + 1) (grown q x.octet) st (omega arith) eight))

        out_control : is_data x ≡ false → Ends (resting at q st) at (x ∷ xs) (through s own st n (met_starts at (x ∷ xs)))
        unfolding after_control
        out_control d =
            quiet_on (resting at q st) (behind at x.octet st) at x xs (through s own st n (met_starts at (x ∷ xs)))
            (step_control (resting at q st) x (omega arith) d)
            (control_on x xs ih d at st (omega arith) eight)

        module _ (r : List ℕ) (k : Keeps q r) (l : q.start + 1 + length r ≡ at) where
          abbrev Left : List Reading
          Left = through s own st n (record { place = q.start; follows = ended_by (r ++ run (x ∷ xs)) (ending (x ∷ xs)) } ∷ met_starts at (x ∷ xs))

          in_data : is_data x ≡ true → Ends (running at q st) at (x ∷ xs) Left
          unfolding after_data grown
          in_data d =
              let more : List ℕ = r ++ (x.octet ∷ []) in
              let m : length more ≡ length r + 1 = length-append r (x.octet ∷ []) in
              let same : Left ≡ through s own st n (record { place = q.start; follows = ended_by (more ++ run xs) (ending xs) } ∷ met_starts (at + 1) xs) =
              rw (run_data x xs d, ending_data x xs d, met-other at x xs (data_not-start x d), append_assoc r (x.octet ∷ []) (run xs)) in
              quiet_on (running at q st) (running (at + 1) (grown q x.octet) st) at x xs Left
              (step_data (running at q st) x (omega arith) d)
              (subst (Ends (running (at + 1) (grown q x.octet) st) (at + 1) xs) (sym same)
              (ih.inside (at + 1) (grown q x.octet) st more (omega arith) eight (keeps-grown q r x.octet k (omega arith)) (omega arith)))

          -- the reading of the Start whose run ends here
          abbrev o : Outcome
          o = outcome s own r x.octet

          abbrev f : List ℕ
          f = frame_of r

          abbrev st' : State
          st' = state_after o f st

          abbrev read : ℕ → Reading
          read next =
              record {
                answer = Counted o (status s o f) (handed_part s o (q.start + 8) f) (way_carried s own o f);
                start = q.start;
                next = next;
                state = st';
              }

          is_read : is_data x ≡ false → Left ≡ read at ∷ through s own st' n (met_starts at (x ∷ xs))
          unfolding read_start read_run ended_by
          is_read d =
              rw (run_control x xs d, ending_control x xs d, append-nil r) (through-ended s own st n q.start r x.octet (met_starts at (x ∷ xs)))
              ∙ ap (λ (next : ℕ). read next ∷ through s own st' n (met_starts at (x ∷ xs))) l

          ends-run : is_data x ≡ false
              → step s job es (running at q st) x
              ≡ record { told = Told.Counted o (status s o f) (handed_part s o (q.start + 8) f) (way_carried s own o f); plain = behind at x.octet st' }
          unfolding after_control
          ends-run d =
              step_control (running at q st) x (omega arith) d
              ∙ rw (keeps-outcome q r k s own x.octet (own-single s valid), keeps-told q r k s own x.octet, keeps-state q r k s own x.octet st eight)

          in_control : is_data x ≡ false → Ends (running at q st) at (x ∷ xs) Left
          in_control d =
              subst (Ends (running at q st) at (x ∷ xs)) (sym (is_read d))
              (counted_on (running at q st) (behind at x.octet st') at x xs o (status s o f) (handed_part s o (q.start + 8) f) (way_carried s own o f)
              (through s own st' n (met_starts at (x ∷ xs)))
              (ends-run d)
              (control_on x xs ih d at st' (omega arith) (eight_after o f st eight)))

      both_hold : (xs : List Symbol) → Both xs
      both_hold [] = none_left
      both_hold (x ∷ xs) =
          let ih = both_hold xs in
          record {
            out = λ at q st fits eight. by_test (is_data x) (out_data x xs ih at q st fits eight) (out_control x xs ih at q st fits eight);
            inside =
                λ at q st r fits eight k l.
                by_test (is_data x) (in_data x xs ih at q st fits eight r k l) (in_control x xs ih at q st fits eight r k l);
          }

-- ---- the claims

module _ (s : Settings) (job : ℕ) (es : List Entry) (st : State) (os ms : List ℕ)
    (fine : first (read_refusals s job es os ms 0) ≡ Ok tt) (eight : length st.timers ≡ 8) where
  abbrev c : List Symbol
  c = capture os ms

  whole : Ends s job es (fresh_plain st) 0 c (walk s job es st os ms)
  unfolding fresh_plain
  whole =
      let k = passed s job es os ms 0 fine in
      let e = length-capture os ms k.even in
      let z = k.small in
      subst (Ends s job es (fresh_plain st) 0 c) (sym (walk_through s job es os ms fine st))
      ((both_hold s job es k.valid k.known k.sound (length c) (omega arith) c).out 0 (begun 0) st (omega arith) eight)

  -- the same readings, in the same order
  pub plain_walks : plain_readings s job es (fresh_plain st) c ≡ walk s job es st os ms
  plain_walks = whole.reads

  -- "the same outcomes, status words", and places and lengths of the data, in the same order
  pub plain_tells : tellings s job es (fresh_plain st) c ≡ tellings_of (walk s job es st os ms)
  plain_tells = whole.tells

  -- the same "counters and timers", as many Starts, and "a run in progress exactly when the walk says `open`"
  pub plain_ends : walked s job es st os ms ≡ plain_end (length (tellings s job es (fresh_plain st) c)) (fed s job es (fresh_plain st) c)
  unfolding walked
  plain_ends =
      let told = length (tellings s job es (fresh_plain st) c) in
      let none : 0 + told ≡ told = omega arith in
      whole.ends 0 st ∙ ap (λ (k : ℕ). plain_end k (fed s job es (fresh_plain st) c)) none

  -- it has taken all of them
  pub plain_place : (fed s job es (fresh_plain st) c).place ≡ length c
  plain_place = whole.taken ∙ omega arith
