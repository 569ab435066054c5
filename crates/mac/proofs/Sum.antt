-- Claim 4, demand 2: after a walk the eleven counters together have risen by the number of Start symbols, less one if open, modulo 2^64, and each
-- counter by the number of Starts with its outcome, on the screen modulo 2^32. The statements are `walk-counts`, `counters_rise`, `counter-rises` and
-- `screen_rises`. Assumes nothing.
use Rattle.std.specs.Prelude.{Option}
use Rattle.receive.specs.Values.{walk_ended}
use Prim.Native.Nat.{ℕ, zero, suc, ◌+◌, ◌-◌, ◌%◌, ◌≤◌, ◌<◌}
use native.Mathlib.Omega.{arith}
use native.Mathlib.Nat.{not-suc-le-zero, le_of_suc-le-suc, mod-add-mod}
use mathlib.Core.Path.{◌≡◌, refl, sym, ap, ap₂, ◌∙◌, subst}
use mathlib.Core.Bool.{Bool, true, false, cond}
use mathlib.Core.List.{List, [], ◌∷◌}
use lib.ListN.{length, get_or, set, length-set}
use lib.Seq.{get_or-set_same, get_or-set_other}
use lib.Dec.{eqb}
use borrow.Author.Tests.{eqb-true, eqb-false}
use Rattle.line.specs.Line.{Symbol, capture, AfterStart, unended, ended, MetStart, met_starts, start_count}
use Rattle.line.proofs.Symbols.{by_test}
use Rattle.line.proofs.Starts.{met-starts}
use Rattle.station.specs.declared.Address.{Address}
use Rattle.station.specs.declared.Settings.{Settings}
use Rattle.station.specs.declared.State.{State}
use Rattle.station.specs.declared.Outcome.{Outcome}
use Rattle.station.specs.Numbers.{outcome_number}
use Rattle.station.specs.Station.{counter_size, counter, counted, total, shown_size, screen_of}
use Rattle.station.proofs.Counters.{row}
use Rattle.station.proofs.Shown.{shown-sum, counter-shown}
use Rattle.table.specs.declared.Entry.{Entry}
use Rattle.table.specs.Entries.{mine}
use Rattle.receive.specs.declared.Reading.{Reading}
use Rattle.receive.specs.declared.Walking.{Walking}
use Rattle.outcome.specs.Outcomes.{outcome, frame_of}
use Rattle.receive.specs.Reading.{state_after, read_run, read_start}
use Rattle.receive.specs.Walk.{walk_of, walked}
use Rattle.mac.specs.Demand2.{Readable, is_unended, last_unended, one_if, has, starts_with}
use Rattle.receive.proofs.Walks.{through, walk_through}
use Rattle.mac.proofs.Walk.{OpenLast, open_last, not_last}

-- ---- remainders, for any width

more : (w a b k : ℕ) → a % w ≡ b % w → (a + k) % w ≡ (b + k) % w
more w a b k e = sym (mod-add-mod a w k) ∙ ap (λ (x : ℕ). (x + k) % w) e ∙ mod-add-mod b w k

-- after one Start x, and then the others z: `one` and `rest` are their rises
chain : (w c a z one rest : ℕ) → a % w ≡ (c + one) % w → z % w ≡ (a + rest) % w → z % w ≡ (c + (one + rest)) % w
chain w c a z one rest p q = q ∙ more w a (c + one) rest p ∙ ap (λ (x : ℕ). x % w) (let e : c + one + rest ≡ c + (one + rest) = omega arith in e)

-- ---- one counter

total-set : (cs : List ℕ) (i : ℕ) → i < length cs → total (set cs i ((get_or cs i 0 + 1) % counter_size)) % counter_size ≡ (total cs + 1) % counter_size
unfolding total
total-set [] i h = absurd (not-suc-le-zero h)
total-set (c ∷ cs) zero h = omega arith
total-set (c ∷ cs) (suc i) h = let e = total-set cs i (le_of_suc-le-suc h) in omega arith

total-counted : (o : Outcome) (cs : List ℕ) → length cs ≡ 11 → total (counted o cs) % counter_size ≡ (total cs + 1) % counter_size
unfolding counted counter
total-counted o cs e = total-set cs (outcome_number o - 1) (subst (λ (n : ℕ). outcome_number o - 1 < n) (sym e) (row o).1)

-- when a Start with the outcome p is counted: the counter of an outcome with its number, and of one with another
pub counts_same : (o p : Outcome) (cs : List ℕ) → length cs ≡ 11 → outcome_number o ≡ outcome_number p
    → counter o (counted p cs) ≡ (counter o cs + 1) % counter_size
unfolding counter counted
counts_same o p cs e same =
    let lt : outcome_number p - 1 < length cs = subst (λ (n : ℕ). outcome_number p - 1 < n) (sym e) (row p).1 in
    rw same (get_or-set_same cs (outcome_number p - 1) ((get_or cs (outcome_number p - 1) 0 + 1) % counter_size) 0 lt)

pub counts-other : (o p : Outcome) (cs : List ℕ) → (outcome_number o ≡ outcome_number p → ⊥) → counter o (counted p cs) ≡ counter o cs
unfolding counter counted
counts-other o p cs other =
    let apart : outcome_number o - 1 ≡ outcome_number p - 1 → ⊥ = (λ q. other (let a = (row o).0 in let b = (row p).0 in omega arith)) in
    get_or-set_other cs (outcome_number p - 1) (outcome_number o - 1) ((get_or cs (outcome_number p - 1) 0 + 1) % counter_size) 0 apart

counter-counted : (o p : Outcome) (cs : List ℕ) → length cs ≡ 11
    → counter o (counted p cs) % counter_size ≡ (counter o cs + one_if (eqb (outcome_number p) (outcome_number o))) % counter_size
unfolding one_if
counter-counted o p cs e =
    by_test (eqb (outcome_number p) (outcome_number o))
    (λ t. let same = counts_same o p cs e (sym (eqb-true (outcome_number p) (outcome_number o) t)) in rw t (omega arith))
    (λ t. let same = counts-other o p cs (λ q. eqb-false (outcome_number p) (outcome_number o) t (sym q)) in rw t (omega arith))

-- ---- the Starts of a walk, one after the other

-- how many of them are counted
unfoldable counted_ones : List MetStart → ℕ
counted_ones ms = length ms - one_if (last_unended ms)

-- with an ended Start in front, and with an open one, which is the last
last-ended : (i : ℕ) (r : List ℕ) (by : ℕ) (ms : List MetStart) → last_unended (record { place = i; follows = ended r by } ∷ ms) ≡ last_unended ms
unfolding last_unended is_unended
last-ended i r by [] = refl
last-ended i r by (m ∷ ms) = refl

some-last : (ms : List MetStart) → one_if (last_unended ms) ≤ length ms
unfolding last_unended one_if is_unended
some-last [] = omega arith
some-last (m ∷ ms) = go (last_unended (m ∷ ms))
  where
    go : (b : Bool) → cond b 1 0 ≤ suc (length ms)
    go true = omega arith
    go false = omega arith

ones_ended : (i : ℕ) (r : List ℕ) (by : ℕ) (ms : List MetStart) → counted_ones (record { place = i; follows = ended r by } ∷ ms) ≡ 1 + counted_ones ms
unfolding counted_ones
ones_ended i r by ms =
    ap (λ (b : Bool). suc (length ms) - one_if b) (last-ended i r by ms) ∙ (let k = some-last ms in omega arith)

-- what one walk over these Starts leaves: how many were counted, the sum of the counters, and the counter of each outcome
record Rises (s : Settings) (own : List (Option Address)) (k : ℕ) (st : State) (ms : List MetStart) (w : Walking) : Type 0 where
  count : w.answer ≡ walk_ended (k + counted_ones ms) (last_unended ms)
  sum : total w.state.counters % counter_size ≡ (total st.counters + counted_ones ms) % counter_size
  each : (o : Outcome) → counter o w.state.counters % counter_size ≡ (counter o st.counters + starts_with s own o ms) % counter_size

module _ (s : Settings) (own : List (Option Address)) (n : ℕ) where
  one : (k : ℕ) (st : State) (i : ℕ) (f : AfterStart) (ms : List MetStart) → length st.counters ≡ 11 → (f ≡ unended → ms ≡ [])
      → ((st : State) → length st.counters ≡ 11 → Rises s own (k + 1) st ms (walk_of (k + 1) st (through s own st n ms)))
      → Rises s own k st (record { place = i; follows = f } ∷ ms) (walk_of k st (through s own st n (record { place = i; follows = f } ∷ ms)))
  unfolding walk_of through read_start read_run state_after has starts_with last_unended is_unended one_if
  one k st i unended [] e l ih =
      let none : counted_ones (record { place = i; follows = unended } ∷ []) ≡ 0 = (unfold counted_ones last_unended is_unended one_if in refl) in
      record {
        count = ap (λ (j : ℕ). walk_ended j true) (let z : k ≡ k + counted_ones (record { place = i; follows = unended } ∷ []) = omega arith in z);
        sum = ap (λ (j : ℕ). j % counter_size) (let z : total st.counters ≡ total st.counters + counted_ones (record { place = i; follows = unended } ∷ []) = omega arith in z);
        each = λ o. ap (λ (j : ℕ). j % counter_size) (let z : counter o st.counters ≡ counter o st.counters + 0 = omega arith in z);
      }
  one k st i unended (m ∷ ms) e l ih = not_last m ms (l refl)
  one k st i (ended r by) ms e l ih =
      let o : Outcome = outcome s own r by in
      let st' : State = state_after o (frame_of r) st in
      let x = ih st' (unfold counted in simp length-set e) in
      let ones = ones_ended i r by ms in
      record {
        count = x.count ∙ ap₂ walk_ended (let z : k + 1 + counted_ones ms ≡ k + counted_ones (record { place = i; follows = ended r by } ∷ ms) = omega arith in z) (sym (last-ended i r by ms));
        sum =
            chain counter_size (total st.counters) (total st'.counters) (total (walk_of (k + 1) st' (through s own st' n ms)).state.counters)
            1 (counted_ones ms)
            (total-counted o st.counters e)
            x.sum
            ∙ ap (λ (j : ℕ). (total st.counters + j) % counter_size) (sym ones);
        each = λ p.
            chain counter_size (counter p st.counters) (counter p st'.counters) (counter p (walk_of (k + 1) st' (through s own st' n ms)).state.counters)
            (one_if (eqb (outcome_number o) (outcome_number p))) (starts_with s own p ms)
            (counter-counted p o st.counters e)
            (x.each p);
      }

  all : (k : ℕ) (st : State) (ms : List MetStart) → length st.counters ≡ 11 → OpenLast ms → Rises s own k st ms (walk_of k st (through s own st n ms))
  unfolding walk_of through OpenLast starts_with last_unended
  all k st [] e w =
      let none : counted_ones [] ≡ 0 = (unfold counted_ones last_unended one_if in refl) in
      record {
        count = ap (λ (j : ℕ). walk_ended j false) (let z : k ≡ k + counted_ones [] = omega arith in z);
        sum = ap (λ (j : ℕ). j % counter_size) (let z : total st.counters ≡ total st.counters + counted_ones [] = omega arith in z);
        each = λ o. ap (λ (j : ℕ). j % counter_size) (let z : counter o st.counters ≡ counter o st.counters + 0 = omega arith in z);
      }
  all k st (m ∷ ms) e w = one k st m.place m.follows ms e w.0 (λ st' e'. all (k + 1) st' ms e' w.1)

-- ---- the claim, for any state of eleven counters

module _ (s : Settings) (job : ℕ) (es : List Entry) (st : State) (os ms : List ℕ) (fine : Readable s job es os ms) (eleven : length st.counters ≡ 11) where
  -- what the job has of the table
  abbrev own : List (Option Address)
  own = mine job es

  abbrev c : List Symbol
  c = capture os ms

  abbrev met : List MetStart
  met = met_starts 0 c

  rises : Rises s own 0 st met (walked s job es st os ms)
  unfolding walked
  rises =
      subst (λ (l : List Reading). Rises s own 0 st met (walk_of 0 st l)) (sym (walk_through s job es os ms fine st))
      (all s own (length c) 0 st met eleven (open_last 0 c))

  ones : counted_ones met ≡ start_count c - one_if (last_unended met)
  unfolding counted_ones
  ones = ap (λ (n : ℕ). n - one_if (last_unended met)) (met-starts 0 c)

  -- the walk in one call says how many Starts it counted, and whether it ended `open`
  pub walk-counts : (walked s job es st os ms).answer ≡ walk_ended (start_count c - one_if (last_unended met)) (last_unended met)
  walk-counts = rises.count ∙ ap (λ (n : ℕ). walk_ended n (last_unended met)) (let e : 0 + counted_ones met ≡ counted_ones met = omega arith in e ∙ ones)

  -- "the eleven counters together have risen … by the number of Start symbols in the capture, less one if the walk ended `open`"; document 02, item 6:
  -- "Demand 2 and the sum over Starts then hold modulo 2^64"
  pub counters_rise : total (walked s job es st os ms).state.counters % counter_size
      ≡ (total st.counters + (start_count c - one_if (last_unended met))) % counter_size
  counters_rise = rises.sum ∙ ap (λ (n : ℕ). (total st.counters + n) % counter_size) ones

  -- and each single counter by the number of Starts with its outcome
  pub counter-rises : (o : Outcome) → counter o (walked s job es st os ms).state.counters % counter_size
      ≡ (counter o st.counters + starts_with s own o met) % counter_size
  counter-rises o = rises.each o

  -- document 02, item 6: "The management screen goes on showing the 32-bit values": each rises by that number modulo 2^32
  pub screen_rises : (o : Outcome) → counter o (screen_of (walked s job es st os ms).state.counters)
      ≡ (counter o (screen_of st.counters) + starts_with s own o met) % shown_size
  screen_rises o =
      counter-shown o (walked s job es st os ms).state.counters
      ∙ shown-sum (counter o (walked s job es st os ms).state.counters) (counter o st.counters) (starts_with s own o met) (counter-rises o)
      ∙ ap (λ (x : ℕ). (x + starts_with s own o met) % shown_size) (sym (counter-shown o st.counters))
