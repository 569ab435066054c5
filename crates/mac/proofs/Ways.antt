-- Document 02, item 7: "Accepted and refused stay as they are" (`accepts_stays`, `passes_stays`, and of a reading `reading-way`), and nothing else of a
-- reading moved (`nothing_moved`). Assumes nothing.
use Rattle.std.specs.Prelude.{Err, None, Ok, Option, Some}
use Rattle.station.specs.Numbers.{Checked}
use Prim.Native.Nat.{ℕ, ◌+◌, ◌≤◌, ◌<◌}
use native.Mathlib.Omega.{arith}
use mathlib.Core.Path.{◌≡◌, refl, sym, ap, ◌∙◌, subst}
use mathlib.Core.Bool.{Bool, true, false, not}
use mathlib.Core.Logic.{◌↔◌}
use mathlib.Core.List.{List}
use lib.ListN.{get_or, drop}
use borrow.Author.Tests.{ltb-true, lt-ltb}
use Rattle.line.specs.Line.{capture, find_start, find_control, AfterStart, unended, ended, after_start}
use Rattle.line.specs.Octets.{between}
use Rattle.line.specs.Table.{Table, ◌⇒◌, ◌∣◌, first}
use Rattle.line.proofs.Symbols.{by_test}
use Rattle.line.proofs.Tables.{first-here, first_next}
use Rattle.station.specs.declared.Address.{Address}
use Rattle.station.specs.declared.Settings.{Settings}
use Rattle.station.specs.declared.State.{State}
use Rattle.station.specs.declared.Outcome.{Outcome}
use Rattle.station.specs.declared.Outcome.TheVariants.{Cut, BadPreamble, Undersized, Oversized, WrongFcs, WrongLength, Filtered, PauseTaken, PfcTaken, ControlDropped, HandedOut}
use Rattle.station.specs.Numbers.{outcome_number}
use Rattle.station.specs.Station.{bad_settings}
use Rattle.table.specs.declared.Entry.{Entry}
use Rattle.table.specs.Entries.{mine}
use Rattle.table.specs.Way.{accepts, way}
use Rattle.table.proofs.Ways.{way-accepts}
use Rattle.control.specs.Control.{filtered, frame_way, way_carried}
use Rattle.control.proofs.Ways.{let_in}
use Rattle.outcome.specs.Outcomes.{outcomes, outcome, frame_of}
use Rattle.receive.specs.declared.Reading.{Reading}
use Rattle.receive.specs.Values.{answer_outcome, answer_way}
use Rattle.receive.specs.Jobs.{unnumbered}
use Rattle.receive.specs.Reading.{read_refusals, reading, read_checked, read_at, read_found, read_start, read_run}
use Rattle.receive.proofs.Cases.{read-refused, read_none, read_open, read-ended}
use Rattle.receive.proofs.Refusals.{passed, own-single}
use Rattle.mac.specs.Ways.{run_before, reading_before}

-- ---- "Accepted and refused stay as they are."

-- a destination has a number exactly if the address rule accepts it
pub accepts_stays : (s : Settings) (own : List (Option Address)) (d : List ℕ) → (0 < way s own d) ↔ (accepts s own d ≡ true)
accepts_stays s own d = (λ h. sym (way-accepts s own d) ∙ lt-ltb 0 (way s own d) h, λ h. ltb-true 0 (way s own d) (way-accepts s own d ∙ h))

module _ (s : Settings) (own : List (Option Address)) (valid : bad_settings s ≡ false) where
  -- and a frame exactly if rule 7 lets it through
  pub passes_stays : (f : List ℕ) → (0 < frame_way s own f) ↔ (filtered s own f ≡ false)
  passes_stays f =
      let e = let_in s own f (own-single s valid) in
      (λ h. was (filtered s own f) (sym e ∙ lt-ltb 0 (frame_way s own f) h), λ h. ltb-true 0 (frame_way s own f) (e ∙ ap not h))
    where
      was : (b : Bool) → not b ≡ true → b ≡ false
      was true h = sym h
      was false h = refl

  -- a table that gives 8 or more: no row above that gives less holds
  past : {b : Bool} (o : Outcome) (rows : Table Outcome) → outcome_number o < 8 → 8 ≤ outcome_number (first (b ⇒ o ∣ rows))
      → (b ≡ false) × (8 ≤ outcome_number (first rows))
  past {b} o rows low h =
      by_test b
      (λ e. absurd (let z = ap outcome_number (first-here o rows e) in omega arith))
      (λ e. (e, subst (λ (x : Outcome). 8 ≤ outcome_number x) (first_next o rows e) h))

  unfiltered : (run : List ℕ) (by : ℕ) → 8 ≤ outcome_number (outcome s own run by) → filtered s own (frame_of run) ≡ false
  unfolding outcome outcomes
  unfiltered run by h =
      let one = past Cut _ (omega arith) h in
      let two = past BadPreamble _ (omega arith) one.1 in
      let three = past Undersized _ (omega arith) two.1 in
      let four = past Oversized _ (omega arith) three.1 in
      let five = past WrongFcs _ (omega arith) four.1 in
      let six = past WrongLength _ (omega arith) five.1 in
      (past Filtered _ (omega arith) six.1).0

  carried : (f : List ℕ) (o : Outcome) → (8 ≤ outcome_number o → 0 < frame_way s own f) → (0 < way_carried s own o f) ↔ (8 ≤ outcome_number o)
  unfolding way_carried
  carried f Cut h = (λ x. absurd (omega arith), λ x. absurd (omega arith))
  carried f BadPreamble h = (λ x. absurd (omega arith), λ x. absurd (omega arith))
  carried f Undersized h = (λ x. absurd (omega arith), λ x. absurd (omega arith))
  carried f Oversized h = (λ x. absurd (omega arith), λ x. absurd (omega arith))
  carried f WrongFcs h = (λ x. absurd (omega arith), λ x. absurd (omega arith))
  carried f WrongLength h = (λ x. absurd (omega arith), λ x. absurd (omega arith))
  carried f Filtered h = (λ x. absurd (omega arith), λ x. absurd (omega arith))
  carried f PauseTaken h = (λ x. omega arith, h)
  carried f PfcTaken h = (λ x. omega arith, h)
  carried f ControlDropped h = (λ x. omega arith, h)
  carried f HandedOut h = (λ x. omega arith, h)

-- a reading has a number exactly with an outcome from 8 to 11; with any other, `none`, `open` and a refusal among them, it is 0
abbrev Says : Reading → Type 0
Says r = (0 < answer_way r.answer) ↔ (8 ≤ answer_outcome r.answer)

neither : {a : ℕ} {b : ℕ} → a ≡ 0 → b ≡ 0 → (0 < a) ↔ (8 ≤ b)
neither e g = (λ x. absurd (omega arith), λ x. absurd (omega arith))

module _ (s : Settings) (job : ℕ) (es : List Entry) (st : State) (os ms : List ℕ) (p : ℕ) where
  -- what the job has of the table
  abbrev own : List (Option Address)
  own = mine job es

  run_says : bad_settings s ≡ false → (i : ℕ) (run : List ℕ) (by : ℕ) → Says (read_run s own st i run (outcome s own run by))
  unfolding read_run
  run_says valid i run by =
      carried s own valid (frame_of run) (outcome s own run by) (λ h. (passes_stays s own valid (frame_of run)).1 (unfiltered s own valid run by h))

  pub reading-way : (0 < answer_way (reading s job es st os ms p).answer) ↔ (8 ≤ answer_outcome (reading s job es st os ms p).answer)
  reading-way = by_checked (first (read_refusals s job es os ms p)) refl
    where
      by_end : first (read_refusals s job es os ms p) ≡ Ok tt → (i : ℕ) → find_start (capture os ms) p ≡ Some i → (f : Option ℕ)
          → find_control (capture os ms) (i + 1) ≡ f → Says (reading s job es st os ms p)
      by_end fine i g None h = subst Says (sym (read_open s job es st os ms p fine i g h)) (neither refl refl)
      by_end fine i g (Some e) h =
          subst Says (sym (read-ended s job es st os ms p fine i g e h)) (run_says (passed s job es os ms p fine).valid i (between os (i + 1) e) (get_or os e 0))

      by-start : first (read_refusals s job es os ms p) ≡ Ok tt → (f : Option ℕ) → find_start (capture os ms) p ≡ f → Says (reading s job es st os ms p)
      by-start fine None g = subst Says (sym (read_none s job es st os ms p fine g)) (neither refl refl)
      by-start fine (Some i) g = by_end fine i g (find_control (capture os ms) (i + 1)) refl

      by_checked : (k : Checked) → first (read_refusals s job es os ms p) ≡ k → Says (reading s job es st os ms p)
      by_checked (Err x) e = subst Says (sym (read-refused s job es st os ms p x e)) (neither refl refl)
      by_checked (Ok _) e = by-start e (find_start (capture os ms) p) refl

  -- ---- nothing else of a reading moved: without the number it is the reading of before

  abbrev Stays : Type 0
  Stays = unnumbered (reading s job es st os ms p) ≡ reading_before s job es st os ms p

  after_stays : first (read_refusals s job es os ms p) ≡ Ok tt → (i : ℕ) → find_start (capture os ms) p ≡ Some i → (f : AfterStart)
      → after_start (drop (i + 1) (capture os ms)) ≡ f → Stays
  unfolding reading read_checked read_at read_found read_start read_run run_before reading_before
  after_stays fine i g unended h = rw (fine, g, h, read_start, reading_before)
  after_stays fine i g (ended run by) h = rw (fine, g, h, read_start, reading_before)

  found_stays : first (read_refusals s job es os ms p) ≡ Ok tt → (f : Option ℕ) → find_start (capture os ms) p ≡ f → Stays
  unfolding reading read_checked read_at read_found reading_before
  found_stays fine None g = rw (fine, g, read_found, reading_before)
  found_stays fine (Some i) g = after_stays fine i g (after_start (drop (i + 1) (capture os ms))) refl

  checked_stays : (k : Checked) → first (read_refusals s job es os ms p) ≡ k → Stays
  unfolding reading read_checked reading_before
  checked_stays (Err x) e = rw (e, read_checked, reading_before)
  checked_stays (Ok _) e = found_stays e (find_start (capture os ms) p) refl

  pub nothing_moved : unnumbered (reading s job es st os ms p) ≡ reading_before s job es st os ms p
  nothing_moved = checked_stays (first (read_refusals s job es os ms p)) refl
