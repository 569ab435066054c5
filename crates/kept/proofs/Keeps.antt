-- What is kept of a run is enough for every rule: `keeps-outcome`, `keeps-told`, `keeps-state`. Assumes nothing.
use Rattle.std.specs.Prelude.{Option}
use Prim.Native.Nat.{ℕ, ◌+◌, ◌-◌, ◌*◌, ◌^◌, ◌≤◌}
use native.Mathlib.Omega.{arith}
use mathlib.Core.Path.{◌≡◌, refl, sym, ap, ap₂, ◌∙◌, subst}
use mathlib.Core.Bool.{Bool, true, false, not, ◌&&◌, ◌||◌}
use mathlib.Core.List.{List, [], ◌++◌}
use lib.ListN.{length, take, drop, replicate, length-drop}
use lib.Seq.{take_all, take-take, drop-drop, drop-append-add}
use lib.Dec.{eqb, ltb, lit≤}
use borrow.Author.Tests.{ltb-true, ltb-false, eq-eqb, ne_eqb}
use Rattle.line.specs.Limits.{preamble_size, lead_size, least_frame}
use Rattle.line.specs.Line.{preamble}
use Rattle.line.specs.Octets.{same_octets}
use Rattle.line.specs.Table.{first}
use Rattle.line.proofs.Symbols.{by_test}
use Rattle.line.proofs.Tables.{first-here, first_next}
use Rattle.crc.specs.Crc.{crc_over}
use Rattle.fcs.specs.Fcs.{fcs_octets}
use Rattle.fcs.proofs.Laws.{fcs-is}
use Rattle.station.specs.declared.Address.{Address}
use Rattle.station.specs.declared.Settings.{Settings}
use Rattle.station.specs.declared.State.{State}
use Rattle.station.specs.declared.Outcome.{Outcome}
use Rattle.station.specs.declared.Outcome.TheVariants.{Cut, BadPreamble, Undersized, Oversized, WrongFcs, WrongLength, Filtered}
use Rattle.station.specs.Station.{is_group}
use Rattle.fields.specs.Tags.{tag_count}
use Rattle.fields.specs.Fields.{field, data_place}
use Rattle.fields.specs.Places.{layout_of}
use Rattle.frame.specs.Frame.{undersized, over_limit, oversized, frame_data, covered, last_four, wrong_fcs}
use Rattle.frame.specs.Length.{kept, breaks_length, wrong_length, handed_count, client_data, handed_length}
use Rattle.frame.proofs.Length.{data_length, handed-count}
use Rattle.control.specs.Control.{filtered, frame_way, way_carried}
use Rattle.control.proofs.Ways.{let_in}
use Rattle.flow.specs.Timers.{timers_after}
use Rattle.outcome.specs.Outcomes.{cut, bad_preamble, frame_of, outcomes, outcome}
use Rattle.outcome.specs.Status.{kind_bits, frame_bits, status_of, status}
use Rattle.receive.specs.Reading.{handed_part, state_after}
use Rattle.kept.specs.declared.Run.{Run}
use Rattle.kept.specs.declared.Told.TheVariants.{Counted}
use Rattle.kept.specs.Kept.{begun, front_of, frame_size, data_octets, handed_octets, later_outcomes, frame_outcomes, kept_outcomes, kept_outcome, kept_bits, kept_word, kept_part, kept_told}
use Rattle.kept.proofs.Laws.{row}
use Rattle.kept.proofs.Front.{drop-take, front_tags, front-field, front-data_place, front_carried, front-later, front-bits, front_timers}

-- four octets before the run stand for those that it has not got yet
abbrev pub zeros : List ℕ
zeros = replicate 4 0

-- q is what is kept of the run r
pub record Keeps (q : Run) (r : List ℕ) : Type 0 where
  pub counts : q.count ≡ length r
  pub room : length q.first ≡ 53
  pub firsts : take (length r) q.first ≡ take 53 r
  pub lasts : q.last ≡ drop (length r) (zeros ++ r)
  pub sums : q.register ≡ crc_over 0xFFFF_FFFF (covered (frame_of r))

pub keeps-begun : (i : ℕ) → Keeps (begun i) []
unfolding begun covered frame_of
keeps-begun i = record { counts = refl; room = refl; firsts = refl; lasts = refl; sums = refl }

-- what the first three rules decide, and the rest
early : (P : Outcome → Type 0) (s : Settings) (own : List (Option Address)) (r : List ℕ) (by : ℕ) → P Cut → P BadPreamble → P Undersized
    → (undersized (frame_of r) ≡ false → P (outcome s own r by)) → P (outcome s own r by)
unfolding outcome outcomes
early P s own r by c b u late =
    by_test (cut by)
    (λ h1. subst P (sym (first-here Cut _ h1)) c)
    (λ h1. by_test (bad_preamble r)
    (λ h2. subst P (sym (first_next Cut _ h1 ∙ first-here BadPreamble _ h2)) b)
    (λ h2. by_test (undersized (frame_of r))
    (λ h3. subst P (sym (first_next Cut _ h1 ∙ first_next BadPreamble _ h2 ∙ first-here Undersized _ h3)) u)
    late))

-- rule 7 by the number, for settings that refusal 1 lets through
none_above : (n : ℕ) (b : Bool) → ltb 0 n ≡ not b → eqb n 0 ≡ b
none_above n true h = eq-eqb n 0 (omega (arith, ltb-false 0 n h))
none_above n false h = ne_eqb n 0 (λ e. omega (arith, ltb-true 0 n h))

module _ (q : Run) (r : List ℕ) (k : Keeps q r) where
  abbrev f : List ℕ
  f = frame_of r

  f-length : length f ≡ length r - preamble_size
  unfolding frame_of
  f-length = length-drop preamble_size r

  same_size : frame_size q ≡ length f
  unfolding frame_size
  same_size = ap (λ (n : ℕ). n - preamble_size) k.counts ∙ sym f-length

  -- the first octets, of a run that has as many
  first_of : (n : ℕ) → n ≤ 53 → n ≤ length r → take n q.first ≡ take n r
  first_of n a b = sym (take-take n (length r) q.first b) ∙ ap (take n) k.firsts ∙ take-take n 53 r a

  same-preamble : (ltb q.count preamble_size || bad_preamble q.first) ≡ bad_preamble r
  unfolding bad_preamble
  same-preamble =
      ap₂ (λ (n m : ℕ). ltb n preamble_size || (ltb m preamble_size || not (same_octets (take preamble_size q.first) preamble))) k.counts k.room
      ∙ by_test (ltb (length r) preamble_size) (λ t. rw t)
      (λ t. ap (λ (l : List ℕ). ltb (length r) preamble_size || not (same_octets l preamble)) (first_of 7 (lit≤ tt) (ltb-false (length r) preamble_size t)))

  -- of a frame that is not undersized, all 46 first octets are there
  module _ (long : undersized f ≡ false) where
    at_least : least_frame ≤ length f
    unfolding undersized
    at_least = ltb-false (length f) least_frame long

    same-front : front_of q ≡ take 46 f
    unfolding front_of frame_of
    same-front =
        let a = at_least in
        let b = f-length in
        let whole : take 53 q.first ≡ q.first = take_all 53 q.first (omega (arith, k.room)) in
        let x : q.first ≡ take 53 r = sym whole ∙ first_of 53 (lit≤ tt) (omega arith) in
        ap (drop preamble_size) x ∙ drop-take preamble_size 46 r

    same_tags : tag_count (front_of q) ≡ tag_count f
    same_tags = ap tag_count same-front ∙ front_tags f

    same-field : field (front_of q) ≡ field f
    same-field = ap field same-front ∙ front-field f

    same_place : data_place (front_of q) ≡ data_place f
    same_place = ap data_place same-front ∙ front-data_place f

    same_data : data_octets q ≡ length (frame_data f)
    unfolding data_octets frame_data
    same_data = ap₂ (λ (n m : ℕ). n - 4 - m) same_size same_place ∙ sym (data_length (data_place f) f)

    same-last : q.last ≡ last_four f
    unfolding last_four frame_of
    same-last =
        let a = at_least in
        let b = f-length in
        let e : length r ≡ length zeros + (length r - 4) = omega arith in
        let d : 7 + (length (drop preamble_size r) - 4) ≡ length r - 4 = omega (arith, length-drop preamble_size r) in
        k.lasts ∙ ap (λ (n : ℕ). drop n (zeros ++ r)) e ∙ drop-append-add zeros r (length r - 4)
        ∙ ap (λ (n : ℕ). drop n r) (sym d) ∙ sym (drop-drop (length (drop preamble_size r) - 4) 7 r)

    same_limit : (m : ℕ) → over_limit m (tag_count (front_of q)) (frame_size q) ≡ oversized m f
    unfolding oversized
    same_limit m = ap₂ (over_limit m) same_tags same_size

    same-fcs : not (same_octets q.last (fcs_octets (0xFFFF_FFFF - q.register))) ≡ wrong_fcs f
    unfolding wrong_fcs
    same-fcs =
        ap₂ (λ (l m : List ℕ). not (same_octets l m)) same-last
        (ap (λ (n : ℕ). fcs_octets (0xFFFF_FFFF - n)) k.sums ∙ fcs-is (covered f))

    same-rule : (checking : Bool) → (checking && not (kept (tag_count (front_of q)) (field (front_of q)) (data_octets q))) ≡ wrong_length checking f
    unfolding wrong_length breaks_length layout_of frame_data
    same-rule checking = rw (same_tags, same-field, same_data)

    same-handed : (checking : Bool) → handed_octets checking q ≡ handed_length checking f
    unfolding handed_octets handed_length client_data
    same-handed checking = ap₂ (handed_count checking) same-field same_data ∙ handed-count checking (field f) (frame_data f)

    same_bits : kept_bits q ≡ frame_bits (tag_count f) f
    unfolding kept_bits frame_bits
    same_bits =
        ap₂ (λ (a b : ℕ). a + b * 2 ^ 16) (ap₂ kind_bits same_tags same-front ∙ front-bits f (tag_count f)) same_size

    module _ (s : Settings) (own : List (Option Address)) where
      same-later : first (later_outcomes s own (front_of q)) ≡ first (later_outcomes s own f)
      same-later = ap (λ (l : List ℕ). first (later_outcomes s own l)) same-front ∙ ap first (front-later f s own)

      module _ (o : Outcome) where
        long-word : kept_word s o q ≡ status s o f
        unfolding kept_word status status_of
        long-word = rw (same_bits, same_data, same-handed s.checking)

        long-part : kept_part s o q ≡ handed_part s o (q.start + lead_size) f
        unfolding kept_part handed_part
        long-part = rw (same_place, same-handed s.checking)

        long-way : way_carried s own o (front_of q) ≡ way_carried s own o f
        long-way = ap (way_carried s own o) same-front ∙ front_carried f s own o

        long-told : kept_told s own o q ≡ Counted o (status s o f) (handed_part s o (q.start + lead_size) f) (way_carried s own o f)
        unfolding kept_told
        long-told = rw (long-word, long-part, long-way)

    long-state : (o : Outcome) (st : State) → length st.timers ≡ 8 → state_after o (front_of q) st ≡ state_after o f st
    unfolding state_after
    long-state o st h = rw (same-front, front_timers f o st.timers h)

  -- ---- the laws

  module _ (s : Settings) (own : List (Option Address)) (by : ℕ) where
    pub keeps-outcome : is_group s.own.0 ≡ false → kept_outcome s own q by ≡ outcome s own r by
    unfolding kept_outcome kept_outcomes frame_outcomes later_outcomes outcome outcomes undersized
    keeps-outcome valid =
        row Cut _ _ refl (λ h1. row BadPreamble _ _ same-preamble (λ h2. row Undersized _ _ (ap (λ (n : ℕ). ltb n least_frame) same_size)
        (λ long. row Oversized _ _ (same_limit long s.limit) (λ h4. row WrongFcs _ _ (same-fcs long)
        (λ h5. row WrongLength _ _ (same-rule long s.checking)
        (λ h6. same-later long s own ∙ row Filtered _ _ (none_above (frame_way s own f) (filtered s own f) (let_in s own f valid)) (λ h7. refl)))))))

    pub keeps-told : let o : Outcome = outcome s own r by in
        kept_told s own o q ≡ Counted o (status s o f) (handed_part s o (q.start + lead_size) f) (way_carried s own o f)
    keeps-told =
        early (λ (o : Outcome). kept_told s own o q ≡ Counted o (status s o f) (handed_part s o (q.start + lead_size) f) (way_carried s own o f)) s own r by
        (unfold kept_told kept_word kept_part status status_of handed_part way_carried in refl)
        (unfold kept_told kept_word kept_part status status_of handed_part way_carried in refl)
        (unfold kept_told kept_word kept_part status status_of handed_part way_carried in refl)
        (λ long. long-told long s own (outcome s own r by))

    pub keeps-state : (st : State) → length st.timers ≡ 8 → state_after (outcome s own r by) (front_of q) st ≡ state_after (outcome s own r by) f st
    keeps-state st h =
        early (λ (o : Outcome). state_after o (front_of q) st ≡ state_after o f st) s own r by
        (unfold state_after timers_after in refl)
        (unfold state_after timers_after in refl)
        (unfold state_after timers_after in refl)
        (λ long. long-state long (outcome s own r by) st h)
