-- The claims of document 02, item 8, as theorems: `reason_true`, `explain_reads`, `explain_true`, `reason_for_each`. Assumes nothing.
use Rattle.std.specs.Prelude.{Err, None, Ok, Option, Some}
use Rattle.station.specs.Numbers.{Checked}
use Prim.Native.Nat.{ℕ, zero, suc, ◌+◌, ◌-◌, ◌*◌, ◌≤◌, ◌<◌}
use native.Mathlib.Omega.{arith}
use mathlib.Core.Path.{◌≡◌, refl, sym, ap, ◌∙◌, subst}
use mathlib.Core.Bool.{Bool, true, false, not, false≢true, true≢false}
use mathlib.Core.List.{List, [], ◌∷◌, ◌++◌}
use lib.ListN.{length, get_or, take, drop, replicate}
use lib.Seq.{take-suc, get_or-drop}
use lib.Dec.{eqb, ltb}
use borrow.Author.Tests.{eqb-true, eqb-false, eq-eqb, ltb-true, ltb-false, not-true}
use Rattle.line.specs.Limits.{preamble_size, lead_size, least_frame, tag_size, fcs_size}
use Rattle.line.specs.Line.{Symbol, capture, find_start, preamble, is_data, run, ending, AfterStart, unended, ended, ended_by, after_start}
use Rattle.line.specs.Octets.{same_octets}
use Rattle.line.specs.Table.{Table, otherwise, ◌∣◌, first}
use Rattle.line.proofs.Symbols.{by_test, run_data, run_control}
use Rattle.line.proofs.Tables.{first-here, first_next, first-other}
use Rattle.line.proofs.Words.{Octets}
use Rattle.fcs.specs.Fcs.{fcs_of, fcs_octets}
use Rattle.station.specs.declared.Address.{Address}
use Rattle.station.specs.declared.Settings.{Settings}
use Rattle.station.specs.declared.State.{State}
use Rattle.station.specs.declared.Outcome.{Outcome}
use Rattle.station.specs.declared.Outcome.TheVariants.{Cut, BadPreamble, Undersized, Oversized, WrongFcs, WrongLength, Filtered, PauseTaken, PfcTaken, ControlDropped, HandedOut}
use Rattle.station.specs.Numbers.{outcome_number}
use Rattle.fields.specs.Tags.{tag_count}
use Rattle.fields.specs.Fields.{destination}
use Rattle.fields.specs.Places.{layout_of}
use Rattle.frame.specs.Frame.{undersized, over_limit, oversized, wrong_fcs, covered, last_four, frame_data}
use Rattle.frame.specs.Length.{breaks_length, wrong_length}
use Rattle.frame.proofs.Fcs.{last-number, wrong-by}
use Rattle.table.specs.declared.Entry.{Entry}
use Rattle.table.specs.Entries.{mine, address_at}
use Rattle.control.specs.Control.{filtered, takes_pause, takes_pfc, drops_control}
use Rattle.outcome.proofs.Rules.{not-cut}
use Rattle.outcome.specs.Outcomes.{cut, bad_preamble, frame_of, outcomes, outcome}
use Rattle.receive.specs.Reading.{empty_part, handed_part, read_run, read_start, read_found, read_at, read_refusals, read_checked, reading}
use Rattle.reason.specs.declared.Reason.{Reason}
use Rattle.reason.specs.declared.Reason.TheVariants.{ShortRun, WrongOctet}
use Rattle.reason.specs.declared.Why.TheVariants.{Because}
use Rattle.reason.specs.Reasons.{right_ones, preamble_reason, received, long_reason, fcs_reason, length_reason, handed_reason, reason_for, reason_of, explain_start, explain_found, explain_checked, explained}
use Rattle.reason.specs.Values.{reason_number, part_in}
use Rattle.reason.specs.Claims.{AllOctets, Fact, tests, IsTrue, Shown, SameAs}
use Rattle.reason.proofs.Laws.{preamble-short, preamble-long}

-- ---- the number of a reason is that of its outcome: a reason "must be given for each outcome"

preamble-number : (at : ℕ) (run : List ℕ) → reason_number (preamble_reason at run) ≡ 2
preamble-number at run =
    by_test (ltb (length run) preamble_size)
    (λ t. ap reason_number (preamble-short at run (ltb-true (length run) preamble_size t)))
    (λ t. ap reason_number (preamble-long at run (ltb-false (length run) preamble_size t)))

pub reason_for_each : (s : Settings) (i : ℕ) (run : List ℕ) (by : ℕ) (o : Outcome) → reason_number (reason_for s i run by o) ≡ outcome_number o
unfolding reason_for long_reason fcs_reason length_reason handed_reason
reason_for_each s i run by Cut = refl
reason_for_each s i run by BadPreamble = preamble-number (i + 1) run
reason_for_each s i run by Undersized = refl
reason_for_each s i run by Oversized = refl
reason_for_each s i run by WrongFcs = refl
reason_for_each s i run by WrongLength = refl
reason_for_each s i run by Filtered = refl
reason_for_each s i run by PauseTaken = refl
reason_for_each s i run by PfcTaken = refl
reason_for_each s i run by ControlDropped = refl
reason_for_each s i run by HandedOut = refl

-- ---- the first wrong octet

unfoldable Wrong : List ℕ → List ℕ → ℕ → Type 0
Wrong xs ys k = (k < length ys) × (get_or xs k 0 ≡ get_or ys k 0 → ⊥) × ((j : ℕ) → j < k → get_or xs j 0 ≡ get_or ys j 0)

first-wrong : (xs ys : List ℕ) → length ys ≤ length xs → same_octets (take (length ys) xs) ys ≡ false → Wrong xs ys (right_ones xs ys)
unfolding Wrong right_ones same_octets
first-wrong xs [] h d = absurd (true≢false (at-end xs d))
  where
    at-end : (zs : List ℕ) → same_octets (take 0 zs) [] ≡ false → true ≡ false
    at-end zs e = unfold same_octets in e
first-wrong [] (y ∷ ys) h d = absurd (let z : ⊥ = omega arith in z)
first-wrong (x ∷ xs) (y ∷ ys) h d =
    by_test (eqb x y)
    (λ t. let ih = first-wrong xs ys (omega arith) (rw t at d) in
    rw (t, right_ones)
    (let e : 1 + right_ones xs ys ≡ suc (right_ones xs ys) = omega arith in
    rw e ((let a = ih.0 in omega arith), ih.1, below (right_ones xs ys) (eqb-true x y t) ih.2)))
    (λ t. rw (t, right_ones) (omega arith, eqb-false x y t, λ j l. absurd (let z : ⊥ = omega arith in z)))
  where
    below : (k : ℕ) → x ≡ y → ((j : ℕ) → j < k → get_or xs j 0 ≡ get_or ys j 0) → (j : ℕ) → j < suc k → get_or (x ∷ xs) j 0 ≡ get_or (y ∷ ys) j 0
    below k e f zero l = e
    below k e f (suc j) l = f j (omega arith)

preamble_seven : length preamble ≡ preamble_size
unfolding preamble
preamble_seven = refl

-- ---- the first rule that holds, in a list of tests: whether it is the one of a row, or none and all else is left

record Stops (l : List Bool) (k : ℕ) : Type 0 where
  inside : k ≤ length l
  earlier : take k l ≡ replicate k false
  holds : get_or l k true ≡ true

stops_first : (l : List Bool) → (k : ℕ) × Stops l k
stops_first [] = (0, record { inside = omega arith; earlier = refl; holds = refl })
stops_first (true ∷ l) = (0, record { inside = omega arith; earlier = refl; holds = refl })
stops_first (false ∷ l) =
    let w = stops_first l in
    (suc w.0, record { inside = (let i = w.1.inside in omega arith); earlier = ap (λ (x : List Bool). false ∷ x) w.1.earlier; holds = w.1.holds })

-- what row k of a table gives, and that a table gives it where that rule is the first
unfoldable given_at : {A : Type 0} → Table A → ℕ → A
given_at (otherwise a) k = a
given_at (r ∣ rows) zero = r.gives
given_at (r ∣ rows) (suc k) = given_at rows k

module _ {A : Type 0} where
  first_stops : (t : Table A) (k : ℕ) → Stops (tests t) k → first t ≡ given_at t k
  unfolding tests given_at
  first_stops (otherwise a) k w = first-other a
  first_stops (r ∣ rows) zero w = first-here r.gives rows w.holds
  first_stops (r ∣ rows) (suc k) w =
      first_next r.gives rows (ap (λ (l : List Bool). get_or l 0 true) w.earlier)
      ∙ first_stops rows k
      (record { inside = (let i = w.inside in omega arith); earlier = ap (drop 1) w.earlier; holds = w.holds })

-- ---- the facts

module _ (s : Settings) (own : List (Option Address)) (i : ℕ) (run : List ℕ) (by : ℕ) where
  abbrev f : List ℕ
  f = frame_of run

  abbrev rules : List Bool
  rules =
      cut by
      ∷ bad_preamble run
      ∷ undersized f
      ∷ oversized s.limit f
      ∷ wrong_fcs f
      ∷ wrong_length s.checking f
      ∷ filtered s own f
      ∷ takes_pause s f
      ∷ takes_pfc s f
      ∷ drops_control s f
      ∷ []

  all_rules : tests (outcomes s own run by f) ≡ rules
  unfolding tests outcomes
  all_rules = refl

  cut-fact : cut by ≡ true → Fact s own i run by (reason_for s i run by Cut)
  unfolding Fact reason_for
  cut-fact h = (refl, refl, λ q. false≢true (sym (not-cut by q) ∙ h))

  short-fact : length run < preamble_size → Fact s own i run by (ShortRun (length run))
  unfolding Fact
  short-fact l = (refl, l)

  preamble-fact : bad_preamble run ≡ true → Fact s own i run by (preamble_reason (i + 1) run)
  preamble-fact h =
      by_test (ltb (length run) preamble_size)
      (λ t. let l = ltb-true (length run) preamble_size t in rw (preamble-short (i + 1) run l) (short-fact l))
      (λ t. let l = ltb-false (length run) preamble_size t in
      let w : Wrong run preamble (right_ones run preamble) = first-wrong run preamble (let q = preamble_seven in omega arith) (wrong_seven t) in
      let e : i + 1 + right_ones run preamble - (i + 1) ≡ right_ones run preamble = omega arith in
      rw (preamble-long (i + 1) run l) (at_place l e w))
    where
      wrong_seven : ltb (length run) preamble_size ≡ false → same_octets (take (length preamble) run) preamble ≡ false
      wrong_seven t = unfold preamble bad_preamble in (not-true _ (rw t at h))

      at_place : preamble_size ≤ length run → i + 1 + right_ones run preamble - (i + 1) ≡ right_ones run preamble → Wrong run preamble (right_ones run preamble)
          → Fact s own i run by (WrongOctet (i + 1 + right_ones run preamble))
      at_place l e w =
          unfold Fact Wrong preamble in
          (l, omega arith, record { inside = rw e w.0; wrong = rw e w.1; before = rw e w.2 })

  size_fact : undersized f ≡ true → Fact s own i run by (reason_for s i run by Undersized)
  unfolding Fact reason_for undersized
  size_fact h = (refl, refl, ltb-true (length f) least_frame h)

  limit_fact : oversized s.limit f ≡ true → Fact s own i run by (reason_for s i run by Oversized)
  unfolding Fact reason_for long_reason oversized over_limit
  limit_fact h = (refl, refl, ltb-true (s.limit + tag_size * tag_count f) (length f) h)

  long : undersized f ≡ false → least_frame ≤ length f
  unfolding undersized
  long h = ltb-false (length f) least_frame h

  values_differ : Octets f → fcs_size ≤ length f → wrong_fcs f ≡ true → received f ≡ fcs_of (covered f) → ⊥
  unfolding received
  values_differ o h w e =
      let n = fcs_of (covered f) in
      let same : same_octets (last_four f) (fcs_octets n) ≡ true = last-number f n h o (omega arith) ∙ eq-eqb _ n e in
      false≢true (sym (ap not same) ∙ wrong-by f n refl ∙ w)

  fcs-fact : Octets run → undersized f ≡ false → wrong_fcs f ≡ true → Fact s own i run by (reason_for s i run by WrongFcs)
  unfolding Fact reason_for fcs_reason
  fcs-fact o u h = (refl, refl, values_differ (octets_of_lem o) (let l = long u in omega arith) h)
    where
      octets_of_lem : Octets run → Octets f
      octets_of_lem w k = unfold frame_of in rw (get_or-drop preamble_size run k 0) (w (preamble_size + k))

  length-fact : wrong_length s.checking f ≡ true → Fact s own i run by (reason_for s i run by WrongLength)
  unfolding Fact reason_for length_reason wrong_length breaks_length layout_of frame_data
  length-fact h = by_test s.checking (λ t. (refl, refl, t, not-true _ (rw t at h))) (λ t. absurd (false≢true (rw t at h)))

  six-fact : 6 ≤ length f → (address_at f 0).0 ≡ destination f
  unfolding address_at destination
  six-fact h =
      sym (take-suc f 5 0 (omega arith)
      ∙ ap (λ (l : List ℕ). l ++ (get_or f 5 0 ∷ []))
      (take-suc f 4 0 (omega arith)
      ∙ ap (λ (l : List ℕ). l ++ (get_or f 4 0 ∷ []))
      (take-suc f 3 0 (omega arith)
      ∙ ap (λ (l : List ℕ). l ++ (get_or f 3 0 ∷ []))
      (take-suc f 2 0 (omega arith)
      ∙ ap (λ (l : List ℕ). l ++ (get_or f 2 0 ∷ []))
      (take-suc f 1 0 (omega arith) ∙ ap (λ (l : List ℕ). l ++ (get_or f 1 0 ∷ [])) (take-suc f 0 0 (omega arith)))))))

  address_fact : undersized f ≡ false → filtered s own f ≡ true → Fact s own i run by (reason_for s i run by Filtered)
  unfolding Fact reason_for
  address_fact u h = (six-fact (let l = long u in omega arith), h)

  pause-fact : takes_pause s f ≡ true → Fact s own i run by (reason_for s i run by PauseTaken)
  unfolding Fact reason_for
  pause-fact h = (refl, h)

  pfc-fact : takes_pfc s f ≡ true → Fact s own i run by (reason_for s i run by PfcTaken)
  unfolding Fact reason_for
  pfc-fact h = (refl, h)

  control_fact : drops_control s f ≡ true → Fact s own i run by (reason_for s i run by ControlDropped)
  unfolding Fact reason_for
  control_fact h = (refl, h)

  handed-fact : Fact s own i run by (reason_for s i run by HandedOut)
  unfolding Fact reason_for handed_reason
  handed-fact = (refl, refl)

  -- ---- the reason, by the number of the first rule that holds

  -- outcome o, whose rule is that one
  true-by : (o : Outcome) → Stops rules (outcome_number o - 1) → given_at (outcomes s own run by f) (outcome_number o - 1) ≡ o
      → Fact s own i run by (reason_for s i run by o)
      → IsTrue s own i run by (reason_of s own i run by)
  unfolding reason_of outcome
  true-by o w given fact =
      let e : first (outcomes s own run by f) ≡ o = first_stops (outcomes s own run by f) (outcome_number o - 1) (rw all_rules w) ∙ given in
      rw e
      record {
        fact = fact;
        rule = rw (reason_for_each s i run by o) (record { earlier = rw all_rules w.earlier; holds = rw all_rules w.holds });
      }

  -- what rule 3 said, where rule 5 or 7 is the first that holds
  sized : take 4 rules ≡ replicate 4 false → undersized f ≡ false
  sized e = ap (λ (l : List Bool). get_or l 2 true) e

  sized_too : take 6 rules ≡ replicate 6 false → undersized f ≡ false
  sized_too e = ap (λ (l : List Bool). get_or l 2 true) e

  true-at : Octets run → (k : ℕ) → Stops rules k → IsTrue s own i run by (reason_of s own i run by)
  unfolding outcomes given_at
  true-at o zero w = true-by Cut w refl (cut-fact w.holds)
  true-at o (suc zero) w = true-by BadPreamble w refl (unfold reason_for in preamble-fact w.holds)
  true-at o (suc (suc zero)) w = true-by Undersized w refl (size_fact w.holds)
  true-at o (suc (suc (suc zero))) w = true-by Oversized w refl (limit_fact w.holds)
  true-at o (suc (suc (suc (suc zero)))) w = true-by WrongFcs w refl (fcs-fact o (sized w.earlier) w.holds)
  true-at o (suc (suc (suc (suc (suc zero))))) w = true-by WrongLength w refl (length-fact w.holds)
  true-at o (suc (suc (suc (suc (suc (suc zero)))))) w = true-by Filtered w refl (address_fact (sized_too w.earlier) w.holds)
  true-at o (suc (suc (suc (suc (suc (suc (suc zero))))))) w = true-by PauseTaken w refl (pause-fact w.holds)
  true-at o (suc (suc (suc (suc (suc (suc (suc (suc zero)))))))) w = true-by PfcTaken w refl (pfc-fact w.holds)
  true-at o (suc (suc (suc (suc (suc (suc (suc (suc (suc zero))))))))) w = true-by ControlDropped w refl (control_fact w.holds)
  true-at o (suc (suc (suc (suc (suc (suc (suc (suc (suc (suc zero)))))))))) w = true-by HandedOut w refl handed-fact
  true-at o (suc (suc (suc (suc (suc (suc (suc (suc (suc (suc (suc k))))))))))) w = absurd (let i = w.inside in omega arith)

  -- "The reason must be true: its fact holds …, and no earlier rule held."
  pub reason_true : Octets run → IsTrue s own i run by (reason_of s own i run by)
  reason_true o = let w = stops_first rules in true-at o w.0 w.1

-- ---- the call and the reading

preamble-part : (at : ℕ) (run : List ℕ) → part_in (preamble_reason at run) ≡ empty_part
preamble-part at run =
    by_test (ltb (length run) preamble_size)
    (λ t. ap part_in (preamble-short at run (ltb-true (length run) preamble_size t)))
    (λ t. ap part_in (preamble-long at run (ltb-false (length run) preamble_size t)))

part_for_each : (s : Settings) (i : ℕ) (run : List ℕ) (by : ℕ) (o : Outcome) → part_in (reason_for s i run by o) ≡ handed_part s o (i + lead_size) (frame_of run)
unfolding reason_for long_reason fcs_reason length_reason handed_reason handed_part
part_for_each s i run by Cut = refl
part_for_each s i run by BadPreamble = preamble-part (i + 1) run
part_for_each s i run by Undersized = refl
part_for_each s i run by Oversized = refl
part_for_each s i run by WrongFcs = refl
part_for_each s i run by WrongLength = refl
part_for_each s i run by Filtered = refl
part_for_each s i run by PauseTaken = refl
part_for_each s i run by PfcTaken = refl
part_for_each s i run by ControlDropped = refl
part_for_each s i run by HandedOut = refl

same_start : (s : Settings) (own : List (Option Address)) (st : State) (i : ℕ) (a : AfterStart) → SameAs (explain_start s own i a) (read_start s own st i a)
unfolding explain_start read_start read_run
same_start s own st i unended = record { start = refl; next = refl; given = refl; outcome = refl; refusal = refl; part = refl }
same_start s own st i (ended run by) =
    record {
      start = refl;
      next = refl;
      given = refl;
      outcome = unfold reason_of in reason_for_each s i run by (outcome s own run by);
      refusal = refl;
      part = unfold reason_of in part_for_each s i run by (outcome s own run by);
    }

same_found : (s : Settings) (own : List (Option Address)) (st : State) (c : List Symbol) (x : Option ℕ) → SameAs (explain_found s own c x) (read_found s own st c x)
unfolding explain_found read_found
same_found s own st c None = record { start = refl; next = refl; given = refl; outcome = refl; refusal = refl; part = refl }
same_found s own st c (Some i) = same_start s own st i (after_start (drop (i + 1) c))

same_checked : (k : Checked) (s : Settings) (own : List (Option Address)) (st : State) (os ms : List ℕ) (p : ℕ)
    → SameAs (explain_checked k s own os ms p) (read_checked k s own st os ms p)
unfolding explain_checked read_checked read_at
same_checked (Ok _) s own st os ms p = same_found s own st (capture os ms) (find_start (capture os ms) p)
same_checked (Err x) s own st os ms p = record { start = refl; next = refl; given = refl; outcome = refl; refusal = refl; part = refl }

pub explain_reads : (s : Settings) (job : ℕ) (es : List Entry) (st : State) (os ms : List ℕ) (p : ℕ)
    → SameAs (explained s job es os ms p) (reading s job es st os ms p)
unfolding explained reading
explain_reads s job es st os ms p = same_checked (first (read_refusals s job es os ms p)) s (mine job es) st os ms p

-- ---- the reason that the call gives, in that capture

unfoldable Small : List Symbol → Type 0
Small [] = Unit {0}
Small (x ∷ xs) = (x.octet < 256) × Small xs

capture-small : (os ms : List ℕ) → Octets os → Small (capture os ms)
unfolding Small capture
capture-small [] ms o = tt
capture-small (x ∷ os) [] o = tt
capture-small (x ∷ os) (m ∷ ms) o = (o 0, capture-small os ms (λ k. o (suc k)))

drop-small : (k : ℕ) (l : List Symbol) → Small l → Small (drop k l)
unfolding Small
drop-small zero l w = w
drop-small (suc k) [] w = w
drop-small (suc k) (x ∷ l) w = drop-small k l w.1

runs_none : [] ≡ run []
unfolding run
runs_none = refl

cons-octets : (x : ℕ) (l : List ℕ) → x < 256 → Octets l → Octets (x ∷ l)
cons-octets x l h o zero = h
cons-octets x l h o (suc k) = o k

none-octets : Octets []
none-octets k = omega arith

run-octets : (l : List Symbol) → Small l → Octets (run l)
unfolding Small
run-octets [] w = subst Octets runs_none none-octets
run-octets (x ∷ l) w =
    by_test (is_data x)
    (λ d. subst Octets (sym (run_data x l d)) (cons-octets x.octet (run l) w.0 (run-octets l w.1)))
    (λ d. subst Octets (sym (run_control x l d)) none-octets)

ended-run : (l : List Symbol) (r : List ℕ) (by : ℕ) → after_start l ≡ ended r by → run l ≡ r
unfolding after_start
ended-run l r by h = go (ending l) h
  where
    go : (e : Option Symbol) → ended_by (run l) e ≡ ended r by → run l ≡ r
    go None q = unfold ended_by in (let z : ◌≡◌ {A = ℕ} 0 1 = cc in absurd (let x : ⊥ = omega arith in x))
    go (Some y) q = unfold ended_by in cc

module _ (s : Settings) (own : List (Option Address)) (os ms : List ℕ) (o : AllOctets os) where
  shown-start : (i : ℕ) (a : AfterStart) (r : Reason) → after_start (drop (i + 1) (capture os ms)) ≡ a → (explain_start s own i a).answer ≡ Because r
      → Shown s own os ms (explain_start s own i a).start r
  unfolding explain_start
  shown-start i unended r f h = let z : ◌≡◌ {A = ℕ} 0 1 = cc in absurd (let x : ⊥ = omega arith in x)
  shown-start i (ended run by) r f h =
      let e : reason_of s own i run by ≡ r = cc in
      let rest = drop (i + 1) (capture os ms) in
      let small : Octets run = subst Octets (ended-run rest run by f) (run-octets rest (drop-small (i + 1) (capture os ms) (capture-small os ms o))) in
      record { run = run; by = by; follows = f; is_true = subst (IsTrue s own i run by) e (reason_true s own i run by small) }

  shown_found : (x : Option ℕ) (r : Reason) → (explain_found s own (capture os ms) x).answer ≡ Because r
      → Shown s own os ms (explain_found s own (capture os ms) x).start r
  unfolding explain_found
  shown_found None r h = let z : ◌≡◌ {A = ℕ} 0 1 = cc in absurd (let x : ⊥ = omega arith in x)
  shown_found (Some i) r h = shown-start i (after_start (drop (i + 1) (capture os ms))) r refl h

  shown_checked : (k : Checked) (p : ℕ) (r : Reason) → (explain_checked k s own os ms p).answer ≡ Because r
      → Shown s own os ms (explain_checked k s own os ms p).start r
  unfolding explain_checked
  shown_checked (Ok _) p r h = shown_found (find_start (capture os ms) p) r h
  shown_checked (Err x) p r h = let z : ◌≡◌ {A = ℕ} 0 1 = cc in absurd (let y : ⊥ = omega arith in y)

pub explain_true : (s : Settings) (job : ℕ) (es : List Entry) (os ms : List ℕ) → AllOctets os → (p : ℕ) (r : Reason)
    → (explained s job es os ms p).answer ≡ Because r → Shown s (mine job es) os ms (explained s job es os ms p).start r
unfolding explained
explain_true s job es os ms o p r h = shown_checked s (mine job es) os ms o (first (read_refusals s job es os ms p)) p r h
