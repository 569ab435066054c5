-- Document 02, item 13: "All bands together equal the rise of those four counters, modulo 2^64". The statement is `sizes_rise`. Assumes nothing.
use Rattle.std.specs.Prelude.{Err, Ok, Option}
use Rattle.station.specs.Numbers.{Checked}
use Prim.Native.Nat.{ℕ, ◌+◌, ◌%◌}
use native.Mathlib.Omega.{arith}
use native.Mathlib.Nat.{mod-add-mod, add-mod-mod}
use mathlib.Core.Path.{◌≡◌, refl, sym, ap, ap₂, ◌∙◌}
use mathlib.Core.List.{List, [], ◌∷◌}
use lib.ListN.{length, length-append}
use lib.Dec.{eqb}
use Rattle.line.specs.Line.{capture, AfterStart, unended, ended, MetStart, met_starts}
use Rattle.line.specs.Table.{first}
use Rattle.station.specs.declared.Address.{Address}
use Rattle.station.specs.declared.Settings.{Settings}
use Rattle.station.specs.declared.State.{State}
use Rattle.station.specs.declared.Refusal.{Refusal}
use Rattle.station.specs.declared.Outcome.{Outcome}
use Rattle.station.specs.declared.Outcome.TheVariants.{Cut, BadPreamble, Undersized, Oversized, WrongFcs, WrongLength, Filtered}
use Rattle.station.specs.declared.Outcome.TheVariants.{PauseTaken, PfcTaken, ControlDropped, HandedOut}
use Rattle.station.specs.Numbers.{outcome_number}
use Rattle.station.specs.Station.{fresh, counter_size, counter, total}
use Rattle.table.specs.declared.Entry.{Entry}
use Rattle.table.specs.Entries.{mine}
use Rattle.outcome.specs.Outcomes.{outcome, frame_of}
use Rattle.receive.specs.declared.Walking.{Walking}
use Rattle.receive.specs.Reading.{read_refusals}
use Rattle.receive.specs.Walk.{walk, walked}
use Rattle.receive.proofs.Walks.{walked-refused}
use Rattle.sizes.specs.declared.SizeTable.{SizeTable}
use Rattle.sizes.specs.declared.Added.{Added}
use Rattle.sizes.specs.Sizes.{sized, frame_lengths, adding}
use Rattle.sizes.specs.Steps.{length_if, lengths_of}
use Rattle.sizes.specs.Claims.{four_counters}
use Rattle.sizes.proofs.Laws.{add-refused, add_fine, walk_lengths, lengths_ended, lengths_open, lengths_none}
use Rattle.sizes.proofs.Claims.{frames_rise}
use Rattle.mac.specs.Demand2.{has, one_if, starts_with}
use Rattle.mac.proofs.Walk.{OpenLast, open_last}
use Rattle.mac.proofs.Sum.{counter-rises}

plus : (w a b c d : ℕ) → a % w ≡ b % w → c % w ≡ d % w → (a + c) % w ≡ (b + d) % w
plus w a b c d p q =
    sym (mod-add-mod a w c) ∙ ap (λ (x : ℕ). (x + c) % w) p ∙ mod-add-mod b w c ∙ sym (add-mod-mod b c w) ∙ ap (λ (x : ℕ). (b + x) % w) q ∙ add-mod-mod b d w

-- ---- the Starts of outcomes 8 to 11 are those whose frames are added

abbrev is : Outcome → Outcome → ℕ
is o p = one_if (eqb (outcome_number o) (outcome_number p))

one_of_four : (o : Outcome) (n : ℕ) → is o PauseTaken + is o PfcTaken + is o ControlDropped + is o HandedOut ≡ length (length_if o n)
unfolding one_if sized
one_of_four Cut n = refl
one_of_four BadPreamble n = refl
one_of_four Undersized n = refl
one_of_four Oversized n = refl
one_of_four WrongFcs n = refl
one_of_four WrongLength n = refl
one_of_four Filtered n = refl
one_of_four PauseTaken n = refl
one_of_four PfcTaken n = refl
one_of_four ControlDropped n = refl
one_of_four HandedOut n = refl

module _ (s : Settings) (own : List (Option Address)) where
  four_with : List MetStart → ℕ
  four_with ms = starts_with s own PauseTaken ms + starts_with s own PfcTaken ms + starts_with s own ControlDropped ms + starts_with s own HandedOut ms

  with_ended : (p : Outcome) (i : ℕ) (r : List ℕ) (by : ℕ) (ms : List MetStart)
      → starts_with s own p (record { place = i; follows = ended r by } ∷ ms) ≡ is (outcome s own r by) p + starts_with s own p ms
  unfolding starts_with has
  with_ended p i r by ms = refl

  with_open : (p : Outcome) (i : ℕ) → starts_with s own p (record { place = i; follows = unended } ∷ []) ≡ 0
  unfolding starts_with has one_if
  with_open p i = refl

  with_none : (p : Outcome) → starts_with s own p [] ≡ 0
  unfolding starts_with
  with_none p = refl

  start-four : (i : ℕ) (f : AfterStart) (ms : List MetStart) → (f ≡ unended → ms ≡ []) → four_with ms ≡ length (lengths_of s own ms)
      → four_with (record { place = i; follows = f } ∷ ms) ≡ length (lengths_of s own (record { place = i; follows = f } ∷ ms))
  unfolding four_with
  start-four i unended ms l ih =
      ap (λ (x : List MetStart). four_with (record { place = i; follows = unended } ∷ x)) (l refl)
      ∙ (let a = with_open PauseTaken i in let b = with_open PfcTaken i in let c = with_open ControlDropped i in let d = with_open HandedOut i in omega arith)
      ∙ sym (ap length (lengths_open s own i ms))
  start-four i (ended r by) ms l ih =
      let o : Outcome = outcome s own r by in
      let n : ℕ = length (frame_of r) in
      let a = with_ended PauseTaken i r by ms in
      let b = with_ended PfcTaken i r by ms in
      let c = with_ended ControlDropped i r by ms in
      let d = with_ended HandedOut i r by ms in
      let e = one_of_four o n in
      let g = ap length (lengths_ended s own i r by ms) in
      let h = length-append (length_if o n) (lengths_of s own ms) in
      omega arith

  all_four : (ms : List MetStart) → OpenLast ms → four_with ms ≡ length (lengths_of s own ms)
  unfolding OpenLast
  all_four [] w =
      unfold four_with in
      ((let a = with_none PauseTaken in let b = with_none PfcTaken in let c = with_none ControlDropped in let d = with_none HandedOut in omega arith)
      ∙ sym (ap length (lengths_none s own)))
  all_four (m ∷ ms) w = start-four m.place m.follows ms w.0 (all_four ms w.1)

-- ---- the claim, for any table of seven bands and any state of eleven counters

module _ (t : SizeTable) (s : Settings) (job : ℕ) (es : List Entry) (st : State) (os ms : List ℕ)
    (seven : length t.frames ≡ 7) (eleven : length st.counters ≡ 11) where
  abbrev Rises : Type 0
  Rises = (total (adding t s job es os ms).sizes.frames + four_counters st.counters) % counter_size
      ≡ (total t.frames + four_counters (walked s job es st os ms).state.counters) % counter_size

  refused : (x : Refusal) → first (read_refusals s job es os ms 0) ≡ Err x → Rises
  refused x h =
      ap₂ (λ (a b : ℕ). (a + b) % counter_size)
      (ap (λ (r : Added). total r.sizes.frames) (add-refused s job es os ms t x h))
      (ap (λ (r : Walking). four_counters r.state.counters) (sym (walked-refused s job es st os ms x h)))

  fine : first (read_refusals s job es os ms 0) ≡ Ok tt → Rises
  unfolding four_counters four_with
  fine h =
      let own : List (Option Address) = mine job es in
      let met : List MetStart = met_starts 0 (capture os ms) in
      let ns : List ℕ = frame_lengths (walk s job es fresh os ms) in
      let cs : List ℕ = (walked s job es st os ms).state.counters in
      let w : ℕ = counter_size in
      let frames : total (adding t s job es os ms).sizes.frames % w ≡ (total t.frames + length ns) % w
      = ap (λ (r : Added). total r.sizes.frames % w) (add_fine s job es os ms t h) ∙ frames_rise t ns seven in
      let rise : (o : Outcome) → counter o cs % w ≡ (counter o st.counters + starts_with s own o met) % w = counter-rises s job es st os ms h eleven in
      let four = all_four s own met (open_last 0 (capture os ms)) in
      let same = ap length (walk_lengths s job es os ms fresh h) in
      let counters = plus w _ _ _ _ (plus w _ _ _ _ (plus w _ _ _ _ (rise PauseTaken) (rise PfcTaken)) (rise ControlDropped)) (rise HandedOut) in
      plus w (total (adding t s job es os ms).sizes.frames) (total t.frames + length ns)
      (four_counters st.counters) (four_counters st.counters) frames refl
      ∙ ap (λ (x : ℕ). x % w)
      (let e : total t.frames + length ns + four_counters st.counters
      ≡ total t.frames
      + (counter PauseTaken st.counters + starts_with s own PauseTaken met + (counter PfcTaken st.counters + starts_with s own PfcTaken met)
      + (counter ControlDropped st.counters + starts_with s own ControlDropped met)
      + (counter HandedOut st.counters + starts_with s own HandedOut met)) = omega arith in e)
      ∙ sym (plus w (total t.frames) (total t.frames) (four_counters cs) _ refl counters)

  -- "All bands together equal the rise of those four counters"; a refused capture raises neither
  pub sizes_rise : Rises
  sizes_rise = by (first (read_refusals s job es os ms 0)) refl
    where
      by : (k : Checked) → first (read_refusals s job es os ms 0) ≡ k → Rises
      by (Ok _) h = fine h
      by (Err x) h = refused x h
