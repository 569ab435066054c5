-- Claim 3, the line: "Any other control octet, Sequence 0x9C included, is treated like Error". With Error in its place each reading, the octets that
-- it hands out, and the walk are the same. The statements are `like_error_lem`, `like_error_data` and `like_error-walk`. Assumes nothing.
use Rattle.std.specs.Prelude.{Option, Some, None, Ok, Err, option_map}
use Rattle.station.specs.Numbers.{Checked}
use Prim.Native.Nat.{ℕ, zero, suc, ◌+◌}
use native.Mathlib.Omega.{arith}
use mathlib.Core.Path.{◌≡◌, refl, sym, ap, ap₂, ◌∙◌}
use mathlib.Core.Bool.{Bool, true, false, not, ◌&&◌, ◌||◌, false≢true}
use mathlib.Core.List.{List, [], ◌∷◌, map}
use lib.Dec.{eqb}
use lib.ListN.{length, drop, length-map}
use borrow.Author.Tests.{not-true}
use Rattle.line.specs.Limits.{lead_size}
use Rattle.line.specs.Line.{Symbol, capture, is_data, is_control, is_start, idle, start, terminate, first_where, find_start, run, ending, ended_by, after_start}
use Rattle.line.specs.Table.{Table, first}
use Rattle.line.proofs.Symbols.{by_test, run_data, run_control, ending_data, ending_control}
use Rattle.station.specs.declared.Address.{Address}
use Rattle.station.specs.declared.Settings.{Settings}
use Rattle.station.specs.declared.State.{State}
use Rattle.station.specs.declared.Part.{Part}
use Rattle.station.specs.declared.Outcome.{Outcome}
use Rattle.station.specs.declared.Outcome.TheVariants.{Cut, BadPreamble, Undersized, Oversized, WrongFcs, WrongLength, Filtered, PauseTaken, PfcTaken, ControlDropped, HandedOut}
use Rattle.station.specs.Station.{bad_buffers, bad_place}
use Rattle.station.proofs.Refusals.{or-false}
use Rattle.fields.specs.Fields.{data_place}
use Rattle.table.specs.declared.Entry.{Entry}
use Rattle.table.specs.Entries.{mine}
use Rattle.frame.specs.Length.{client_data, handed_length}
use Rattle.outcome.specs.Outcomes.{cut, frame_of, outcomes, outcome}
use Rattle.receive.specs.declared.Reading.{Reading}
use Rattle.receive.specs.Reading.{empty_part, handed_part, read_run, read_start, read_found, read_at, read_refusals, read_checked, reading, part_of}
use Rattle.receive.specs.Values.{answer_part, is_counted}
use Rattle.receive.specs.Walk.{readings_from, walk, walk_of, walked}
use Rattle.receive.proofs.Handed.{handed-part, part-inside}
use Rattle.mac.specs.LikeError.{error, is_other, treated_like, like_error}

-- ---- one symbol

-- a symbol as it is treated
abbrev treated : Symbol → Symbol
treated x = record { octet = treated_like x; mark = x.mark }

and_right : (a b : Bool) → (a && b) ≡ true → b ≡ true
and_right true b h = h
and_right false b h = absurd (false≢true h)

-- whether a symbol's octet is v, where v is neither Error nor one that is treated like it
same_test : (x : Symbol) (v : ℕ) → (is_other x.octet ≡ true → eqb x.octet v ≡ false) → eqb error v ≡ false → eqb (treated_like x) v ≡ eqb x.octet v
unfolding treated_like
same_test x v f e =
    by_test (is_control x && is_other x.octet)
    (λ h. rw h (e ∙ sym (f (and_right (is_control x) (is_other x.octet) h))))
    (λ h. rw h)

-- "any other": neither Start nor Terminate
others : (o : ℕ) → is_other o ≡ true → (eqb o start ≡ false) × (eqb o terminate ≡ false)
unfolding is_other
others o h =
    let x = or-false (eqb o idle || eqb o start) (eqb o terminate) (not-true (eqb o idle || eqb o start || eqb o terminate) h) in
    ((or-false (eqb o idle) (eqb o start) x.0).1, x.1)

same_start : (x : Symbol) → is_start (treated x) ≡ is_start x
unfolding is_start is_control is_data
same_start x = ap (λ (b : Bool). not (eqb x.mark 0) && b) (same_test x start (λ h. (others x.octet h).0) refl)

same-cut : (x : Symbol) → cut (treated_like x) ≡ cut x.octet
unfolding cut
same-cut x = ap not (same_test x terminate (λ h. (others x.octet h).1) refl)

same_data : (x : Symbol) → is_data (treated x) ≡ is_data x
unfolding is_data
same_data x = refl

data_stays : (x : Symbol) → is_data x ≡ true → treated_like x ≡ x.octet
unfolding treated_like is_control
data_stays x h = rw h

-- ---- a capture

same_length : (os ms : List ℕ) → length (like_error os ms) ≡ length os
unfolding like_error
same_length [] ms = refl
same_length (o ∷ os) [] = refl
same_length (o ∷ os) (m ∷ ms) = ap suc (same_length os ms)

capture_like : (os ms : List ℕ) → capture (like_error os ms) ms ≡ map treated (capture os ms)
unfolding capture like_error
capture_like [] ms = refl
capture_like (o ∷ os) [] = refl
capture_like (o ∷ os) (m ∷ ms) = ap (λ (l : List Symbol). treated (record { octet = o; mark = m }) ∷ l) (capture_like os ms)

drop-map : (n : ℕ) (l : List Symbol) → drop n (map treated l) ≡ map treated (drop n l)
drop-map zero l = refl
drop-map (suc n) [] = refl
drop-map (suc n) (x ∷ xs) = drop-map n xs

same_found : (at : ℕ) (l : List Symbol) → first_where is_start at (map treated l) ≡ first_where is_start at l
unfolding first_where
same_found at [] = refl
same_found at (x ∷ xs) = ap₂ (λ (b : Bool) (f : Option ℕ). elim b [ true ↦ Some at | false ↦ f ]) (same_start x) (same_found (at + 1) xs)

same-run : (l : List Symbol) → run (map treated l) ≡ run l
unfolding run
same-run [] = refl
same-run (x ∷ xs) =
    by_test (is_data x)
    (λ h. run_data (treated x) (map treated xs) (same_data x ∙ h) ∙ ap₂ (λ (o : ℕ) (r : List ℕ). o ∷ r) (data_stays x h) (same-run xs) ∙ sym (run_data x xs h))
    (λ h. run_control (treated x) (map treated xs) (same_data x ∙ h) ∙ sym (run_control x xs h))

same-ending : (l : List Symbol) → ending (map treated l) ≡ option_map treated (ending l)
unfolding ending
same-ending [] = refl
same-ending (x ∷ xs) =
    by_test (is_data x)
    (λ h. ending_data (treated x) (map treated xs) (same_data x ∙ h) ∙ same-ending xs ∙ ap (option_map treated) (sym (ending_data x xs h)))
    (λ h. ending_control (treated x) (map treated xs) (same_data x ∙ h) ∙ ap (option_map treated) (sym (ending_control x xs h)))

-- ---- a reading

-- `own` is what the job has of the table
module _ (s : Settings) (own : List (Option Address)) (st : State) where
  same_outcome : (r : List ℕ) (x : Symbol) → outcome s own r (treated_like x) ≡ outcome s own r x.octet
  unfolding outcome outcomes
  same_outcome r x = rw (same-cut x)

  same_ended : (i : ℕ) (r : List ℕ) (e : Option Symbol) → read_start s own st i (ended_by r (option_map treated e)) ≡ read_start s own st i (ended_by r e)
  unfolding ended_by read_start
  same_ended i r None = refl
  same_ended i r (Some x) = ap (read_run s own st i r) (same_outcome r x)

  same_after : (i : ℕ) (l : List Symbol) → read_start s own st i (after_start (map treated l)) ≡ read_start s own st i (after_start l)
  unfolding after_start
  same_after i l = ap₂ (λ (r : List ℕ) (e : Option Symbol). read_start s own st i (ended_by r e)) (same-run l) (same-ending l) ∙ same_ended i (run l) (ending l)

  same-reading : (c : List Symbol) (f : Option ℕ) → read_found s own st (map treated c) f ≡ read_found s own st c f
  unfolding read_found
  same-reading c None = rw (length-map c treated)
  same-reading c (Some i) = ap (λ (l : List Symbol). read_start s own st i (after_start l)) (drop-map (i + 1) c) ∙ same_after i (drop (i + 1) c)

  same_at : (c : List Symbol) (place : ℕ) → read_at s own st (map treated c) place ≡ read_at s own st c place
  unfolding read_at find_start
  same_at c place =
      ap (read_found s own st (map treated c)) (ap (first_where is_start place) (drop-map place c) ∙ same_found place (drop place c))
      ∙ same-reading c (find_start c place)

  same_checked : (k : Checked) (os ms : List ℕ) (place : ℕ) → read_checked k s own st (like_error os ms) ms place ≡ read_checked k s own st os ms place
  unfolding read_checked
  same_checked (Err x) os ms place = refl
  same_checked (Ok _) os ms place = ap (λ (c : List Symbol). read_at s own st c place) (capture_like os ms) ∙ same_at (capture os ms) place

module _ (s : Settings) (job : ℕ) (es : List Entry) (st : State) where
  same_refusals : (os ms : List ℕ) (place : ℕ) → read_refusals s job es (like_error os ms) ms place ≡ read_refusals s job es os ms place
  unfolding read_refusals bad_buffers bad_place
  same_refusals os ms place = rw (same_length os ms)

  -- refused by the same number, or read to the same answer, places and state
  pub like_error_lem : (os ms : List ℕ) (place : ℕ) → reading s job es st (like_error os ms) ms place ≡ reading s job es st os ms place
  unfolding reading
  like_error_lem os ms place =
      ap (λ (t : Table Checked). read_checked (first t) s (mine job es) st (like_error os ms) ms place) (same_refusals os ms place)
      ∙ same_checked s (mine job es) st (first (read_refusals s job es os ms place)) os ms place

-- ---- the client data of a reading

module _ (s : Settings) (own : List (Option Address)) (st : State) (os ms : List ℕ) where
  abbrev c : List Symbol
  c = capture os ms

  -- a part that holds the same octets in both
  abbrev Same : Part → Type 0
  Same p = part_of (like_error os ms) p ≡ part_of os p

  same_empty : Same empty_part
  same_empty = part-inside (like_error os ms) empty_part (omega arith) ∙ sym (part-inside os empty_part (omega arith))

  same-frame : (i : ℕ) → frame_of (run (drop (i + 1) (capture (like_error os ms) ms))) ≡ frame_of (run (drop (i + 1) c))
  same-frame i = ap frame_of (ap run (ap (drop (i + 1)) (capture_like os ms) ∙ drop-map (i + 1) c) ∙ same-run (drop (i + 1) c))

  same-handed : (i : ℕ) (o : Outcome) → Same (handed_part s o (i + lead_size) (frame_of (run (drop (i + 1) c))))
  unfolding handed_part
  same-handed i Cut = same_empty
  same-handed i BadPreamble = same_empty
  same-handed i Undersized = same_empty
  same-handed i Oversized = same_empty
  same-handed i WrongFcs = same_empty
  same-handed i WrongLength = same_empty
  same-handed i Filtered = same_empty
  same-handed i PauseTaken = same_empty
  same-handed i PfcTaken = same_empty
  same-handed i ControlDropped = same_empty
  same-handed i HandedOut =
      let ck : Bool = s.checking in
      let e = same-frame i in
      ap (λ (f : List ℕ). part_of (like_error os ms) (record { at = i + lead_size + data_place f; len = handed_length ck f })) (sym e)
      ∙ handed-part ck (like_error os ms) ms i ∙ ap (client_data ck) e ∙ sym (handed-part ck os ms i)

  same_answer : (i : ℕ) (e : Option Symbol) → Same (answer_part (read_start s own st i (ended_by (run (drop (i + 1) c)) e)).answer)
  unfolding ended_by read_start read_run
  same_answer i None = same_empty
  same_answer i (Some x) = same-handed i (outcome s own (run (drop (i + 1) c)) x.octet)

  same_in_found : (f : Option ℕ) → Same (answer_part (read_found s own st c f).answer)
  unfolding read_found after_start
  same_in_found None = same_empty
  same_in_found (Some i) = same_answer i (ending (drop (i + 1) c))

  same_in_checked : (k : Checked) (place : ℕ) → Same (answer_part (read_checked k s own st os ms place).answer)
  unfolding read_checked read_at
  same_in_checked (Err x) place = same_empty
  same_in_checked (Ok _) place = same_in_found (find_start c place)

-- the part that a reading answers holds the same octets
pub like_error_data : (s : Settings) (job : ℕ) (es : List Entry) (st : State) (os ms : List ℕ) (place : ℕ)
    → let p : Part = answer_part (reading s job es st os ms place).answer in part_of (like_error os ms) p ≡ part_of os p
unfolding reading
like_error_data s job es st os ms place = same_in_checked s (mine job es) st os ms (first (read_refusals s job es os ms place)) place

-- ---- a walk

-- a reading, and those behind it where it counts a Start
abbrev then : Reading → List Reading → List Reading
then r rs = r ∷ elim (is_counted r.answer) [ true ↦ rs | false ↦ [] ]

same_readings : (most : ℕ) (s : Settings) (job : ℕ) (es : List Entry) (st : State) (os ms : List ℕ) (place : ℕ)
    → readings_from most s job es st (like_error os ms) ms place ≡ readings_from most s job es st os ms place
unfolding readings_from
same_readings zero s job es st os ms place = refl
same_readings (suc most) s job es st os ms place =
    let r : Reading = reading s job es st os ms place in
    ap (λ (q : Reading). then q (readings_from most s job es q.state (like_error os ms) ms q.next)) (like_error_lem s job es st os ms place)
    ∙ ap (then r) (same_readings most s job es r.state os ms r.next)

-- every reading of the walk, and so what the walk comes to
pub like_error-walk : (s : Settings) (job : ℕ) (es : List Entry) (st : State) (os ms : List ℕ)
    → (walk s job es st (like_error os ms) ms ≡ walk s job es st os ms) × (walked s job es st (like_error os ms) ms ≡ walked s job es st os ms)
unfolding walk walked
like_error-walk s job es st os ms =
    let e : readings_from (length (like_error os ms) + 1) s job es st (like_error os ms) ms 0 ≡ readings_from (length os + 1) s job es st os ms 0 =
    rw (same_length os ms) (same_readings (length os + 1) s job es st os ms 0) in
    (e, ap (walk_of 0 st) e)
