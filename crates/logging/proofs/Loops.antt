-- A walk that keeps its readings as its code goes: the record of a Start's frame, and one turn of the loop, by where it finds a Start and the end of its run.
-- Assumes nothing.
use Rattle.std.specs.Prelude.{None, Ok, Option, Some}
use Prim.Native.Nat.{ℕ, ◌+◌, ◌-◌, ◌*◌, ◌/◌, ◌≤◌, ◌<◌}
use native.Mathlib.Omega.{arith}
use mathlib.Core.Path.{◌≡◌, refl, sym, ap, ap₂, ◌∙◌, subst}
use mathlib.Core.Bool.{true, false, false≢true}
use mathlib.Core.List.{List, [], ◌∷◌}
use lib.ListN.{length, get_or}
use denote.Enum.Declared.{tag_of}
use types.Run.{OneOf}
use Rattle.line.specs.Limits.{record_size, table_entries}
use Rattle.line.specs.Line.{capture, find_start, find_control, overwrite}
use Rattle.line.specs.Octets.{between}
use Rattle.line.specs.Table.{first}
use Rattle.line.proofs.Places.{control_found}
use Rattle.station.specs.declared.Address.{Address}
use Rattle.station.specs.declared.Settings.{Settings}
use Rattle.station.specs.declared.State.{State}
use Rattle.station.specs.declared.Part.{Part}
use Rattle.station.specs.declared.Outcome.{Outcome}
use Rattle.station.specs.declared.Outcome.TheVariants.{Cut, BadPreamble, Undersized, Oversized, WrongFcs, WrongLength, Filtered}
use Rattle.station.specs.declared.Outcome.TheVariants.{PauseTaken, PfcTaken, ControlDropped, HandedOut}
use Rattle.station.specs.Numbers.{by_outcome, outcome_number}
use Rattle.station.specs.contracts.Outcome.{the_type}
use Rattle.station.proofs.Arms.{one_to_seven, early}
use Rattle.fields.specs.declared.Layout.{Layout}
use Rattle.fields.specs.Places.{layout_of}
use Rattle.fields.proofs.Places.{layout_tags, layout-place}
use Rattle.frame.specs.Frame.{data_from, frame_data}
use Rattle.table.specs.declared.Entry.{Entry}
use Rattle.table.specs.Entries.{mine}
use Rattle.control.specs.Control.{way_carried}
use Rattle.outcome.specs.Outcomes.{outcome, frame_of}
use Rattle.outcome.specs.Status.{status, status_of}
use Rattle.outcome.proofs.Words.{word_of_lem}
use Rattle.receive.specs.declared.Reading.{Reading}
use Rattle.receive.specs.Reading.{read_refusals, reading, read_run, state_after, handed_part}
use Rattle.receive.proofs.Cases.{read_none, read_open, read-ended}
use Rattle.receive.proofs.Parts.{no_part, part_laid, part-told}
use Rattle.receive.proofs.Refusals.{passed}
use Rattle.reading_log.specs.declared.Record.{Record}
use Rattle.reading_log.specs.Log.{octets_of_record, extent, roomy}
use Rattle.reading_log.specs.Claims.{Fits, IsMultiple}
use Rattle.reading_log.proofs.Records.{length_record, used-counts, counts_so}
use Rattle.reading_log.proofs.Written.{extent-written}
use Rattle.logging.specs.declared.LogEnd.TheVariants.{Nothing, Open, Full}
use Rattle.logging.specs.Records.{record_at, record_of_reading}
use Rattle.logging.specs.Steps.{record_of_frame}
use Rattle.logging.specs.Walks.{stopped, keep_from}
use Rattle.logging.proofs.Readings.{run_length, reading_fits}
use Rattle.logging.proofs.Turns.{number-some, turn_none, turn_open, turn_full, turn_kept}

-- ---- which outcomes say something of their frame

-- the match's last arm
pub tells_none : (o : Outcome) → OneOf one_to_seven (tag_of the_type o) → false ≡ by_outcome o false true true true true
tells_none o h = early o false true true true true h

-- ---- the record of a frame

module _ (s : Settings) (own : List (Option Address)) (i : ℕ) (f : List ℕ) where
  -- an outcome that says nothing: status word 0, and nothing handed out
  pub untold : (o : Outcome) → by_outcome o false true true true true ≡ false → record_at i (outcome_number o) 0 0 0 ≡ record_of_frame s own i f o
  unfolding record_of_frame handed_part status status_of way_carried
  untold Cut h = refl
  untold BadPreamble h = refl
  untold Undersized h = refl
  untold Oversized h = refl
  untold WrongFcs h = refl
  untold WrongLength h = refl
  untold Filtered h = refl
  untold PauseTaken h = absurd (false≢true (sym h))
  untold PfcTaken h = absurd (false≢true (sym h))
  untold ControlDropped h = absurd (false≢true (sym h))
  untold HandedOut h = absurd (false≢true (sym h))

  abbrev one_to_ten : List ℕ
  one_to_ten = 0 ∷ 1 ∷ 2 ∷ 3 ∷ 4 ∷ 5 ∷ 6 ∷ 7 ∷ 8 ∷ 9 ∷ []

  -- any but the last hands out nothing
  pub none-handed : (o : Outcome) → OneOf one_to_ten (tag_of the_type o) → 0 ≡ (handed_part s o (i + 8) f).len
  none-handed o h = ap (λ (p : Part). p.len) (no_part s.checking o (i + 8) f (layout_of f) h ∙ part_laid s (i + 8) f o)

  -- by the frame's layout: the number of the address, so many octets handed out, and the word
  pub laid_record : (o : Outcome) (l : Layout) (v h w : ℕ) → l ≡ layout_of f → v ≡ way_carried s own o f → h ≡ (handed_part s o (i + 8) f).len
      → w ≡ status_of o f l.tags (length (data_from l.place f)) h → record_at i (outcome_number o) v h w ≡ record_of_frame s own i f o
  unfolding record_of_frame status frame_data
  laid_record o l v h w e a g t =
      ap (λ (x : ℕ). record_at i (outcome_number o) x h w) a
      ∙ ap₂ (record_at i (outcome_number o) (way_carried s own o f)) g
      (word_of_lem o t refl (layout_tags l f e) (ap (λ (p : ℕ). length (data_from p f)) (layout-place l f e)) g ∙ part-told s (i + 8) f o _ _)

  -- it has an outcome
  frame-some : (o : Outcome) → (record_of_frame s own i f o).outcome ≡ 0 → ⊥
  unfolding record_of_frame
  frame-some o = number-some o

-- ---- one turn of the loop

module _ (s : Settings) (job : ℕ) (es : List Entry) (os ms : List ℕ) (p : ℕ) (fine : first (read_refusals s job es os ms p) ≡ Ok tt) where
  abbrev own : List (Option Address)
  own = mine job es

  module _ (st : State) (n : ℕ) (l : List ℕ) (left : ℕ) (more : 0 < left) where
    pub loop_none : find_start (capture os ms) p ≡ None → keep_from left s job es st os ms p n l ≡ stopped Nothing st (length os) n l
    loop_none h = turn_none s job es st os ms p n l left more _ (sym (read_none s job es st os ms p fine h)) refl

    pub loop_open : (i : ℕ) → find_start (capture os ms) p ≡ Some i → find_control (capture os ms) (i + 1) ≡ None
        → keep_from left s job es st os ms p n l ≡ stopped Open st i n l
    loop_open i g h = turn_open s job es st os ms p n l left more _ (sym (read_open s job es st os ms p fine i g h)) refl

  -- a Start at i whose run is ended at e
  module _ (i : ℕ) (found : find_start (capture os ms) p ≡ Some i) (e : ℕ) (end : find_control (capture os ms) (i + 1) ≡ Some e) where
    abbrev run : List ℕ
    run = between os (i + 1) e

    abbrev becomes : Outcome
    becomes = outcome s own run (get_or os e 0)

    abbrev kept : Record
    kept = record_of_frame s own i (frame_of run) becomes

    next-is : i + 1 + length run ≡ e
    next-is =
        let c = control_found os ms (passed s job es os ms p fine).even (i + 1) e end in
        let k = run_length os (i + 1) e (omega arith) in
        omega arith

    module _ (st : State) where
      abbrev read : Reading
      read = read_run s own st i run becomes

      is : read ≡ reading s job es st os ms p
      is = sym (read-ended s job es st os ms p fine i found e end)

      same : record_of_reading read ≡ kept
      unfolding record_of_reading read_run record_of_frame
      same = refl

      module _ (n : ℕ) (l : List ℕ) (left : ℕ) (more : 0 < left) (good : IsMultiple l) where
        pub loop_full : extent (roomy l) ≡ length l / record_size → keep_from left s job es st os ms p n l ≡ stopped Full st p n l
        unfolding read_run
        loop_full h = turn_full s job es st os ms p n l left more read is becomes _ _ _ refl good h

        pub loop_kept : (k : ℕ) → k ≡ extent (roomy l) → k < length l / record_size
            → keep_from left s job es st os ms p n l
            ≡ keep_from (left - 1) s job es (state_after becomes (frame_of run) st) os ms e (n + 1) (overwrite (roomy l) (record_size * k) (octets_of_record kept))
        unfolding read_run
        loop_kept k h lt =
            turn_kept s job es st os ms p n l left more read is becomes _ _ _ refl good k h lt
            ∙ ap₂ (λ (next : ℕ) (x : Record).
            keep_from (left - 1) s job es (state_after becomes (frame_of run) st) os ms next (n + 1) (overwrite (roomy l) (record_size * k) (octets_of_record x)))
            next-is same

    -- behind the last used record its record is the last used one
    pub loop_next : length es ≤ table_entries → (l : List ℕ) (k : ℕ) → record_size * k + record_size ≤ length l → k ≡ extent l
        → extent (overwrite l (record_size * k) (octets_of_record kept)) ≡ k + 1
    loop_next few l k h g =
        let st : State = record { counters = []; timers = []; deficit = 0 } in
        let fits : Fits kept = subst Fits (sym (ap record_of_reading (is st)) ∙ same st) (reading_fits s job es st os ms p fine few) in
        extent-written l k (octets_of_record kept) (length_record kept) h
        (used-counts kept fits ∙ counts_so kept (frame-some s own i (frame_of run) becomes)) g
