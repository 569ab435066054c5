-- A reading of a capture: it moves on, its places lie inside the capture, and its record holds it whole: `reading_whole`. Assumes nothing.
use Rattle.std.specs.Prelude.{None, Ok, Option, Some}
use Prim.Native.Nat.{ℕ, ◌+◌, ◌-◌, ◌^◌, ◌≤◌, ◌<◌}
use native.Mathlib.Omega.{arith}
use native.Mathlib.Nat.{mod-eq_of_lt, mod-lt}
use mathlib.Core.Path.{◌≡◌, refl, sym, subst}
use mathlib.Core.Bool.{Bool, true, false, not, ◌&&◌, false≢true}
use mathlib.Core.List.{List}
use lib.ListN.{length, get_or, length-take, length-drop}
use lib.Dec.{eqb, leb, lit<}
use Rattle.line.specs.Limits.{most_symbols, table_entries}
use Rattle.line.specs.Line.{capture, find_start, find_control}
use Rattle.line.specs.Octets.{between, same_octets}
use Rattle.line.specs.Table.{first}
use Rattle.line.proofs.Places.{start_found_lem, control_found}
use Rattle.station.specs.declared.Address.{Address}
use Rattle.station.specs.declared.Settings.{Settings}
use Rattle.station.specs.declared.State.{State}
use Rattle.station.specs.declared.Outcome.{Outcome}
use Rattle.station.specs.declared.Outcome.TheVariants.{Cut, BadPreamble, Undersized, Oversized, WrongFcs, WrongLength, Filtered}
use Rattle.station.specs.declared.Outcome.TheVariants.{PauseTaken, PfcTaken, ControlDropped, HandedOut}
use Rattle.station.specs.Numbers.{by_outcome, outcome_number}
use Rattle.station.specs.Station.{is_group}
use Rattle.fields.specs.Fields.{destination, data_place, field}
use Rattle.fields.specs.Tags.{tag_count}
use Rattle.address.specs.Address.{broadcast_address}
use Rattle.table.specs.declared.Entry.{Entry}
use Rattle.table.specs.Entries.{mine}
use Rattle.table.proofs.Entries.{length-mine}
use Rattle.control.specs.Control.{is_control_frame}
use Rattle.control.proofs.Ways.{way_carried_le}
use Rattle.frame.specs.Frame.{frame_data}
use Rattle.frame.specs.Length.{client_data, handed_length}
use Rattle.frame.proofs.Length.{data_length, handed-le}
use Rattle.outcome.specs.Outcomes.{outcome, frame_of}
use Rattle.outcome.specs.Status.{status, status_of, kind_bits, frame_bits, bit}
use Rattle.receive.specs.declared.Answer.{Answer}
use Rattle.receive.specs.declared.Answer.TheVariants.{Nothing, Open, Counted}
use Rattle.receive.specs.declared.Reading.{Reading}
use Rattle.receive.specs.Values.{is_counted, answer_part, answer_outcome, answer_status, answer_refusal, answer_way}
use Rattle.receive.specs.Reading.{read_refusals, reading, read_run, handed_part}
use Rattle.receive.proofs.Cases.{read_none, read_open, read-ended}
use Rattle.receive.proofs.Refusals.{Passed, passed}
use Rattle.reading_log.specs.Claims.{Fits}
use Rattle.logging.specs.Records.{record_of_reading, Whole}

-- ---- what a run's frame comes to

frame-le : (run : List ℕ) → length (frame_of run) ≤ length run
unfolding frame_of
frame-le run = let e = length-drop 7 run in omega arith

data_le : (f : List ℕ) → length (frame_data f) ≤ length f
unfolding frame_data
data_le f = let e = data_length (data_place f) f in omega arith

handed-small : (ck : Bool) (f : List ℕ) → handed_length ck f ≤ length f
unfolding handed_length client_data
handed-small ck f = let e = handed-le (field f) (frame_data f) ck in let d = data_le f in omega arith

bit_le : (n : ℕ) (b : Bool) → bit n b ≤ 2 ^ n
unfolding bit
bit_le n true = omega arith
bit_le n false = omega arith

-- the flags and the frame's length stand below bit 39
bits_small : (tags : ℕ) (f : List ℕ) → length f ≤ 65535 → frame_bits tags f < 2 ^ 39
unfolding frame_bits kind_bits
bits_small tags f h =
    let a = bit_le 38 (not (is_group (destination f))) in
    let b = bit_le 37 (is_group (destination f) && not (same_octets (destination f) broadcast_address)) in
    let c = bit_le 36 (same_octets (destination f) broadcast_address) in
    let d = bit_le 34 (is_control_frame f) in
    let e = bit_le 33 (eqb tags 1) in
    let g = bit_le 32 (leb 2 tags) in
    omega arith

status-small : (s : Settings) (o : Outcome) (f : List ℕ) → length f ≤ 65535 → status s o f < 2 ^ 64
unfolding status status_of
status-small s o f h =
    let b = bits_small (tag_count f) f h in
    let d = data_le f in
    let k = handed-small s.checking f in
    go o b d k
  where
    go : (o : Outcome) → frame_bits (tag_count f) f < 2 ^ 39 → length (frame_data f) ≤ length f → handed_length s.checking f ≤ length f
        → by_outcome o 0 (2 ^ 35 + frame_bits (tag_count f) f + length (frame_data f)) (2 ^ 39 + frame_bits (tag_count f) f + length (frame_data f))
        (frame_bits (tag_count f) f + length (frame_data f)) (frame_bits (tag_count f) f + handed_length s.checking f) < 2 ^ 64
    go Cut b d k = omega arith
    go BadPreamble b d k = omega arith
    go Undersized b d k = omega arith
    go Oversized b d k = omega arith
    go WrongFcs b d k = omega arith
    go WrongLength b d k = omega arith
    go Filtered b d k = omega arith
    go PauseTaken b d k = omega arith
    go PfcTaken b d k = omega arith
    go ControlDropped b d k = omega arith
    go HandedOut b d k = omega arith

part_small : (s : Settings) (o : Outcome) (at : ℕ) (f : List ℕ) → length f ≤ 65535 → (handed_part s o at f).len ≤ 65535
unfolding handed_part
part_small s Cut at f h = omega arith
part_small s BadPreamble at f h = omega arith
part_small s Undersized at f h = omega arith
part_small s Oversized at f h = omega arith
part_small s WrongFcs at f h = omega arith
part_small s WrongLength at f h = omega arith
part_small s Filtered at f h = omega arith
part_small s PauseTaken at f h = omega arith
part_small s PfcTaken at f h = omega arith
part_small s ControlDropped at f h = omega arith
part_small s HandedOut at f h = let k = handed-small s.checking f in omega arith

-- ---- a reading that is not refused

-- what is known of a reading r at place p, of a job with these entries: sizes, and that one which counts a Start moves on and stays inside
pub record Sound (own : List (Option Address)) (os : List ℕ) (p : ℕ) (r : Reading) : Type 0 where
  pub place : r.start ≤ most_symbols
  pub handed : (answer_part r.answer).len ≤ 65535
  pub status : answer_status r.answer < 2 ^ 64
  pub way : length own ≤ table_entries → answer_way r.answer < 2 ^ 8
  pub refused : answer_refusal r.answer ≡ 0
  pub on : is_counted r.answer ≡ true → (p < r.next) × (r.next < length os)

pub run_length : (os : List ℕ) (i e : ℕ) → e ≤ length os → length (between os i e) ≡ e - i
unfolding between
run_length os i e h = simp (length-take, length-drop) (omega arith)

run_sound : (s : Settings) (own : List (Option Address)) (st : State) (os : List ℕ) (p i : ℕ) (run : List ℕ) (o : Outcome) → p ≤ i
    → i + 1 + length run < length os → length os ≤ most_symbols → Sound own os p (read_run s own st i run o)
unfolding read_run
run_sound s own st os p i run o low high small =
    let f : length (frame_of run) ≤ 65535 = (let w = frame-le run in omega arith) in
    record {
      place = omega arith;
      handed = part_small s o (i + 8) (frame_of run) f;
      status = status-small s o (frame_of run) f;
      way = λ few. (let w = way_carried_le s own (frame_of run) few o in omega arith);
      refused = refl;
      on = λ z. (omega arith, omega arith);
    }

module _ (s : Settings) (job : ℕ) (es : List Entry) (st : State) (os ms : List ℕ) (p : ℕ) (fine : first (read_refusals s job es os ms p) ≡ Ok tt) where
  abbrev own : List (Option Address)
  own = mine job es

  pub reading_sound : Sound own os p (reading s job es st os ms p)
  reading_sound = by-start (find_start (capture os ms) p) refl
    where
      k : Passed s job es os ms p
      k = passed s job es os ms p fine

      by_end : (i : ℕ) → find_start (capture os ms) p ≡ Some i → (f : Option ℕ) → find_control (capture os ms) (i + 1) ≡ f
          → Sound own os p (reading s job es st os ms p)
      by_end i g None h =
          let b = start_found_lem os ms k.even p i g in
          let small = k.small in
          subst (Sound own os p) (sym (read_open s job es st os ms p fine i g h))
          (record { place = omega arith; handed = omega arith; status = lit< tt; way = λ _. lit< tt; refused = refl; on = λ z. absurd (false≢true z) })
      by_end i g (Some e) h =
          let b = start_found_lem os ms k.even p i g in
          let d = control_found os ms k.even (i + 1) e h in
          let small = k.small in
          let run = between os (i + 1) e in
          let n = run_length os (i + 1) e (omega arith) in
          subst (Sound own os p) (sym (read-ended s job es st os ms p fine i g e h))
          (run_sound s own st os p i run (outcome s own run (get_or os e 0)) (omega arith) (omega arith) (omega arith))

      by-start : (f : Option ℕ) → find_start (capture os ms) p ≡ f → Sound own os p (reading s job es st os ms p)
      by-start None g =
          let small = k.small in
          subst (Sound own os p) (sym (read_none s job es st os ms p fine g))
          (record { place = omega arith; handed = omega arith; status = lit< tt; way = λ _. lit< tt; refused = refl; on = λ z. absurd (false≢true z) })
      by-start (Some i) g = by_end i g (find_control (capture os ms) (i + 1)) refl

  -- nothing of it is cut off
  pub reading_whole : Whole (reading s job es st os ms p)
  unfolding record_of_reading
  reading_whole =
      let r = reading s job es st os ms p in
      let a = reading_sound.place in
      let b = reading_sound.handed in
      let place : r.start < 2 ^ 32 = omega arith in
      let handed : (answer_part r.answer).len < 2 ^ 16 = omega arith in
      record { place = mod-eq_of_lt place; handed = mod-eq_of_lt handed }

  -- its record's fields have their widths, with a table of 16 entries
  pub reading_fits : length es ≤ table_entries → Fits (record_of_reading (reading s job es st os ms p))
  unfolding record_of_reading
  reading_fits few =
      let r = reading s job es st os ms p in
      record {
        place = mod-lt r.start (lit< tt);
        outcome = answer-small r.answer;
        way = reading_sound.way (omega (arith, length-mine job es));
        handed = mod-lt (answer_part r.answer).len (lit< tt);
        status = reading_sound.status;
      }
    where
      number_small : (o : Outcome) → outcome_number o < 2 ^ 8
      number_small Cut = lit< tt
      number_small BadPreamble = lit< tt
      number_small Undersized = lit< tt
      number_small Oversized = lit< tt
      number_small WrongFcs = lit< tt
      number_small WrongLength = lit< tt
      number_small Filtered = lit< tt
      number_small PauseTaken = lit< tt
      number_small PfcTaken = lit< tt
      number_small ControlDropped = lit< tt
      number_small HandedOut = lit< tt

      answer-small : (a : Answer) → answer_outcome a < 2 ^ 8
      answer-small (Answer.Refused x) = lit< tt
      answer-small Nothing = lit< tt
      answer-small Open = lit< tt
      answer-small (Counted o w q v) = number_small o
