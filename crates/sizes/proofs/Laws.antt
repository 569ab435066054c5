-- The size table over the Starts of a capture: what the walk's readings have of frame lengths, and what one turn of each loop of the code uses. Assumes
-- nothing.
use Rattle.std.specs.Prelude.{Err, None, Ok, Option, Some}
use Rattle.station.specs.Numbers.{Checked}
use Rattle.std.proofs.Common.{◌≡◌, ℕ, zero, suc, ◌+◌, ◌-◌, ◌%◌, ◌<◌, ◌≤◌, true, false, cond, List, [], ◌∷◌, ◌++◌, length, get_or, sym, refl, ap, ◌∙◌, ap₂, le_of_suc-le-suc, not-suc-le-zero, arith, length-drop, length-set}
use denote.Enum.Declared.{tag_of}
use types.Run.{OneOf, miss}
use Rattle.line.specs.Limits.{lead_size}
use Rattle.line.specs.Line.{capture, find_start, find_control, AfterStart, unended, ended, MetStart, met_starts}
use Rattle.line.specs.Octets.{between}
use Rattle.line.specs.Table.{first}
use Rattle.station.specs.declared.Address.{Address}
use Rattle.station.specs.declared.Settings.{Settings}
use Rattle.station.specs.declared.State.{State}
use Rattle.station.specs.declared.Refusal.{Refusal}
use Rattle.station.specs.declared.Outcome.{Outcome}
use Rattle.station.specs.declared.Outcome.TheVariants.{Cut, BadPreamble, Undersized, Oversized, WrongFcs, WrongLength, Filtered}
use Rattle.station.specs.declared.Outcome.TheVariants.{PauseTaken, PfcTaken, ControlDropped, HandedOut}
use Rattle.station.specs.Station.{fresh}
use Rattle.station.specs.contracts.Outcome.{the_type}
use Rattle.table.specs.declared.Entry.{Entry}
use Rattle.table.specs.Entries.{mine}
use Rattle.outcome.specs.Outcomes.{outcome, frame_of}
use Rattle.receive.specs.declared.Reading.{Reading}
use Rattle.receive.specs.Reading.{read_run, read_start, read_refusals}
use Rattle.receive.specs.Walk.{walk}
use Rattle.receive.proofs.Walks.{through, walk_through, through-ended, through-unended, met_from, met-none, met_open, met-ended}
use Rattle.sizes.specs.declared.SizeTable.{SizeTable}
use Rattle.sizes.specs.Sizes.{sized, count_size, raised, with_frame, with_frames, length_by, frame_lengths, add_checked, adding, together}
use Rattle.sizes.specs.Steps.{length_if, lengths_of, together_from}

-- ---- the outcomes whose frames are not added, by their places in the enum

abbrev others : List ℕ
others = 0 ∷ 1 ∷ 2 ∷ 3 ∷ 4 ∷ 5 ∷ 6 ∷ []

pub sized_none : (o : Outcome) → OneOf others (tag_of the_type o) → sized o ≡ false
unfolding sized
sized_none Cut h = refl
sized_none BadPreamble h = refl
sized_none Undersized h = refl
sized_none Oversized h = refl
sized_none WrongFcs h = refl
sized_none WrongLength h = refl
sized_none Filtered h = refl
sized_none PauseTaken h = absurd (miss others 7 tt h)
sized_none PfcTaken h = absurd (miss others 8 tt h)
sized_none ControlDropped h = absurd (miss others 9 tt h)
sized_none HandedOut h = absurd (miss others 10 tt h)

-- ---- frames in a row

pub frames_append : (t : SizeTable) (a b : List ℕ) → with_frames t (a ++ b) ≡ with_frames (with_frames t a) b
unfolding with_frames
frames_append t [] b = refl
frames_append t (n ∷ a) b = frames_append (with_frame t n) a b

-- a frame that is added, and one that is not
pub frame-added : (t : SizeTable) (o : Outcome) (n : ℕ) → sized o ≡ true → with_frames t (length_if o n) ≡ with_frame t n
unfolding with_frames
frame-added t o n h = ap (λ (b : _). with_frames t (cond b (n ∷ []) [])) h

pub frame-left : (t : SizeTable) (o : Outcome) (n : ℕ) → sized o ≡ false → with_frames t (length_if o n) ≡ t
unfolding with_frames
frame-left t o n h = ap (λ (b : _). with_frames t (cond b (n ∷ []) [])) h

-- ---- the lengths of the walk's readings are those of the capture's Starts

-- a frame's length, by the places of its Start and of the end of its run
frame-length : (i : ℕ) (r : List ℕ) → i + 1 + length r - (i + lead_size) ≡ length (frame_of r)
unfolding frame_of
frame-length i r = let d = length-drop 7 r in omega arith

module _ (s : Settings) (own : List (Option Address)) where
  pub lengths_none : lengths_of s own [] ≡ []
  unfolding lengths_of
  lengths_none = refl

  pub lengths_open : (i : ℕ) (ms : List MetStart) → lengths_of s own (record { place = i; follows = unended } ∷ ms) ≡ []
  unfolding lengths_of
  lengths_open i ms = refl

  pub lengths_ended : (i : ℕ) (r : List ℕ) (by : ℕ) (ms : List MetStart)
      → lengths_of s own (record { place = i; follows = ended r by } ∷ ms) ≡ length_if (outcome s own r by) (length (frame_of r)) ++ lengths_of s own ms
  unfolding lengths_of
  lengths_ended i r by ms = refl

  ended-length : (st : State) (i : ℕ) (r : List ℕ) (by : ℕ) → let q = read_start s own st i (ended r by) in
      length_by q.answer (q.next - (q.start + 8)) ≡ length_if (outcome s own r by) (length (frame_of r))
  unfolding read_start read_run length_by
  ended-length st i r by = ap (length_if (outcome s own r by)) (frame-length i r)

  none-length : (st : State) (n : ℕ) → frame_lengths (through s own st n []) ≡ []
  unfolding through frame_lengths length_by
  none-length st n = refl

  open_length : (st : State) (n i : ℕ) (ms : List MetStart) → frame_lengths (through s own st n (record { place = i; follows = unended } ∷ ms)) ≡ []
  unfolding frame_lengths length_by
  open_length st n i ms = ap frame_lengths (through-unended s own st n i ms)

  frames_cons : (r : Reading) (rs : List Reading) → frame_lengths (r ∷ rs) ≡ length_by r.answer (r.next - (r.start + 8)) ++ frame_lengths rs
  unfolding frame_lengths
  frames_cons r rs = refl

  -- a Start more, where the others have theirs
  start_lengths : (n : ℕ) (ms : List MetStart) → ((st : State) → frame_lengths (through s own st n ms) ≡ lengths_of s own ms)
      → (st : State) (i : ℕ) (f : AfterStart)
      → frame_lengths (through s own st n (record { place = i; follows = f } ∷ ms)) ≡ lengths_of s own (record { place = i; follows = f } ∷ ms)
  start_lengths n ms ih st i unended = open_length st n i ms ∙ sym (lengths_open i ms)
  start_lengths n ms ih st i (ended r by) =
      let q : Reading = read_start s own st i (ended r by) in
      ap frame_lengths (through-ended s own st n i r by ms)
      ∙ frames_cons q (through s own q.state n ms)
      ∙ ap₂ (λ (a b : List ℕ). a ++ b) (ended-length st i r by) (ih q.state)
      ∙ sym (lengths_ended i r by ms)

  through_lengths : (n : ℕ) (ms : List MetStart) (st : State) → frame_lengths (through s own st n ms) ≡ lengths_of s own ms
  through_lengths n [] st = none-length st n ∙ sym lengths_none
  through_lengths n (m ∷ ms) st = start_lengths n ms (λ st'. through_lengths n ms st') st m.place m.follows

-- ---- adding, by whether it is refused

module _ (s : Settings) (job : ℕ) (es : List Entry) (os ms : List ℕ) where
  -- from any state
  pub walk_lengths : (st : State) → first (read_refusals s job es os ms 0) ≡ Ok tt
      → frame_lengths (walk s job es st os ms) ≡ lengths_of s (mine job es) (met_from os ms 0)
  walk_lengths st fine =
      ap frame_lengths (walk_through s job es os ms fine st) ∙ through_lengths s (mine job es) (length (capture os ms)) (met_starts 0 (capture os ms)) st

  pub add-refused : (t : SizeTable) (x : Refusal) → first (read_refusals s job es os ms 0) ≡ Err x
      → adding t s job es os ms ≡ record { answer = Err x; sizes = t }
  unfolding adding add_checked
  add-refused t x h = ap (λ (k : Checked). add_checked k t s job es os ms) h

  pub add_fine : (t : SizeTable) → first (read_refusals s job es os ms 0) ≡ Ok tt
      → adding t s job es os ms ≡ record { answer = Ok tt; sizes = with_frames t (frame_lengths (walk s job es fresh os ms)) }
  unfolding adding add_checked
  add_fine t h = ap (λ (k : Checked). add_checked k t s job es os ms) h

-- ---- one turn of the walk

-- the table with what is left to add from place p on
unfoldable pub add_left : SizeTable → Settings → List (Option Address) → List ℕ → List ℕ → ℕ → SizeTable
add_left t s own os ms p = with_frames t (lengths_of s own (met_from os ms p))

pub left-start : (t : SizeTable) (s : Settings) (job : ℕ) (es : List Entry) (os ms : List ℕ) → first (read_refusals s job es os ms 0) ≡ Ok tt
    → add_left t s (mine job es) os ms 0 ≡ with_frames t (frame_lengths (walk s job es fresh os ms))
unfolding add_left
left-start t s job es os ms h = sym (ap (with_frames t) (walk_lengths s job es os ms fresh h))

module _ (t : SizeTable) (s : Settings) (own : List (Option Address)) (os ms : List ℕ) (p : ℕ) where
  abbrev over : List MetStart → SizeTable
  over l = with_frames t (lengths_of s own l)

  pub turn_none : find_start (capture os ms) p ≡ None → add_left t s own os ms p ≡ t
  unfolding add_left with_frames
  turn_none h = ap over (met-none os ms p h) ∙ ap (with_frames t) (lengths_none s own)

  module _ (i : ℕ) (found : find_start (capture os ms) p ≡ Some i) where
    pub turn_open : find_control (capture os ms) (i + 1) ≡ None → add_left t s own os ms p ≡ t
    unfolding add_left with_frames
    turn_open h = ap over (met_open os ms p i found h) ∙ ap (with_frames t) (lengths_open s own i (met_from os ms (i + 1)))

    pub turn_ended : (same : length os ≡ length ms) (e : ℕ) → find_control (capture os ms) (i + 1) ≡ Some e → i + 1 ≤ e → e < length os
        → let r : List ℕ = between os (i + 1) e in
        add_left t s own os ms p ≡ add_left (with_frames t (length_if (outcome s own r (get_or os e 0)) (length (frame_of r)))) s own os ms e
    unfolding add_left
    turn_ended same e h low high =
        let r : List ℕ = between os (i + 1) e in
        ap over (met-ended os ms p i found same e h low high)
        ∙ ap (with_frames t) (lengths_ended s own i r (get_or os e 0) (met_from os ms e))
        ∙ frames_append t (length_if (outcome s own r (get_or os e 0)) (length (frame_of r))) (lengths_of s own (met_from os ms e))

-- ---- one turn of adding two tables

pub length-raised : (l : List ℕ) (i n : ℕ) → length (raised l i n) ≡ length l
unfolding raised
length-raised l i n = length-set l i ((get_or l i 0 + n) % count_size)

-- the next count, and all of them
pub count_next : (k : ℕ) (a b : List ℕ) → k < length a → k < length b → together_from (suc k) (raised a k (get_or b k 0)) b ≡ together_from k a b
unfolding together_from together raised
count_next k [] b h g = absurd (not-suc-le-zero h)
count_next k (x ∷ a) [] h g = absurd (not-suc-le-zero g)
count_next zero (x ∷ a) (y ∷ b) h g = refl
count_next (suc k) (x ∷ a) (y ∷ b) h g = ap (λ (l : List ℕ). x ∷ l) (count_next k a b (le_of_suc-le-suc h) (le_of_suc-le-suc g))

pub count-first : (a b : List ℕ) → together_from 0 a b ≡ together a b
unfolding together_from
count-first a b = refl

pub count-last : (k : ℕ) (a b : List ℕ) → length a ≡ k → length b ≡ k → together_from k a b ≡ a
unfolding together_from together
count-last zero [] b h g = refl
count-last zero (x ∷ a) b h g = absurd (let z : ⊥ = omega arith in z)
count-last (suc k) [] b h g = refl
count-last (suc k) (x ∷ a) [] h g = absurd (let z : ⊥ = omega arith in z)
count-last (suc k) (x ∷ a) (y ∷ b) h g = ap (λ (l : List ℕ). x ∷ l) (count-last k a b (omega arith) (omega arith))
