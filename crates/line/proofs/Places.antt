-- What a caller learns of the place that a search found: that it lies in the buffers, what stands there, and what stands before it. Assumes nothing.
use Rattle.std.specs.Prelude.{Some, None}
use Prim.Native.Nat.{ℕ, zero, suc, ◌+◌, ◌-◌, ◌≤◌, ◌<◌}
use native.Mathlib.Omega.{arith}
use native.Mathlib.Numerals.{add-one}
use mathlib.Core.Path.{◌≡◌, refl, sym, ap, ap₂, ◌∙◌, subst}
use mathlib.Core.Bool.{Bool, true, false, not}
use mathlib.Core.List.{List, [], ◌∷◌}
use lib.ListN.{length, get_or, take, drop}
use lib.Seq.{drop-cons}
use lib.Dec.{leb}
use borrow.Author.Tests.{leb-true, leb-false, not-true, not-false}
use Rattle.line.specs.Line.{Symbol, capture, is_data, is_control, is_start, first_where, find_start, find_control, run, ending, unended, ended, ended_by, after_start}
use Rattle.line.specs.Octets.{between}
use Rattle.line.specs.Passed.{Passed}
use Rattle.line.proofs.Symbols.{by_test, where_here, where_later, run_data, run_control, ending_data, ending_control}
use Rattle.line.proofs.Buffers.{symbol_at, capture-at}
use Rattle.line.proofs.Search.{from, search_here, search_on, search_end-octets}
use Rattle.line.proofs.Passing.{Miss, passed_none, passed-one, passed_on}

never : {k : ℕ} → None ≡ Some k → ⊥
never h = let z : ◌≡◌ {A = ℕ} 0 1 = cc in omega arith

module _ (test : Symbol → Bool) (os ms : List ℕ) (same : length os ≡ length ms) where
  -- each place before the one found misses the test, and the symbol found meets it
  abbrev pub Stops : ℕ → ℕ → Type 0
  Stops p i = Passed (Miss test os ms) p i (length os) × (i < length os) × (test (symbol_at os ms i) ≡ true)

  pub search_stops : (n p i : ℕ) → length os ≤ p + n → from test os ms p ≡ Some i → Stops p i
  search_stops zero p i h e = absurd (never (sym (search_end-octets test os ms p (omega arith)) ∙ e))
  search_stops (suc n) p i h e =
      by_test (leb (length os) p)
      (λ t. absurd (never (sym (search_end-octets test os ms p (leb-true _ _ t)) ∙ e)))
      (λ t.
      let l : p < length os = leb-false _ _ t in
      by_test (test (symbol_at os ms p))
      (λ y. let z : Some p ≡ Some i = sym (search_here test os ms p l (omega arith) y) ∙ e in
      let q : p ≡ i = cc in
      subst (Stops p) q (passed_none (Miss test os ms) p (length os) (omega arith), l, y))
      (λ y. let r = search_stops n (p + 1) i (omega arith) (sym (search_on test os ms p l (omega arith) y) ∙ e) in
      let one = passed-one (Miss test os ms) p p (length os) (passed_none (Miss test os ms) p (length os) (omega arith)) l y in
      (passed_on (Miss test os ms) p (p + 1) i (length os) one r.0, r.1, r.2)))

module _ (os ms : List ℕ) (same : length os ≡ length ms) where
  pub start_found_lem : (p i : ℕ) → find_start (capture os ms) p ≡ Some i → (p ≤ i) × (i < length os) × (is_start (symbol_at os ms i) ≡ true)
  unfolding find_start
  start_found_lem p i e = let r = search_stops is_start os ms same (length os) p i (omega arith) e in (r.0.forth, r.1, r.2)

  pub control_found : (p e : ℕ) → find_control (capture os ms) p ≡ Some e → (p ≤ e) × (e < length os) × (is_control (symbol_at os ms e) ≡ true)
  unfolding find_control
  control_found p e h = let r = search_stops is_control os ms same (length os) p e (omega arith) h in (r.0.forth, r.1, r.2)

  -- n data symbols from a place on, and a control symbol after them
  run_to : (n i e : ℕ) → i + n ≡ e → e < length os → ((k : ℕ) → i ≤ k → k < e → is_control (symbol_at os ms k) ≡ false) → is_control (symbol_at os ms e) ≡ true
      → (run (drop i (capture os ms)) ≡ between os i e) × (ending (drop i (capture os ms)) ≡ Some (symbol_at os ms e))
  unfolding between is_control
  run_to zero i e s h f t =
      let x = symbol_at os ms i in
      let q : i ≡ e = omega arith in
      let d : is_data x ≡ false = ap (λ (k : ℕ). is_data (symbol_at os ms k)) q ∙ not-true _ t in
      let c = capture-at os ms i (omega arith) (omega arith) in (
        ap run c ∙ run_control x _ d ∙ ap (λ (k : ℕ). take k (drop i os)) (let z : 0 ≡ e - i = omega arith in z),
        ap ending c ∙ ending_control x _ d ∙ ap (λ (k : ℕ). Some (symbol_at os ms k)) q,
      )
  run_to (suc n) i e s h f t =
      let x = symbol_at os ms i in
      let d : is_data x ≡ true = not-false _ (f i (omega arith) (omega arith)) in
      let c = capture-at os ms i (omega arith) (omega arith) in
      let r = run_to n (i + 1) e (omega arith) h (λ k l g. f k (omega arith) g) t in
      let o : drop i os ≡ get_or os i 0 ∷ drop (i + 1) os = drop-cons os i 0 (omega arith) ∙ ap (λ (k : ℕ). get_or os i 0 ∷ drop k os) (sym (add-one i)) in (
        ap run c ∙ run_data x _ d ∙ ap (λ (l : List ℕ). get_or os i 0 ∷ l) r.0
            ∙ sym (ap₂ take (let z : e - i ≡ suc (e - (i + 1)) = omega arith in z) o),
        ap ending c ∙ ending_data x _ d ∙ r.1,
      )

  -- the run from a place to the control symbol found, and that symbol
  pub run_found : (i e : ℕ) → find_control (capture os ms) i ≡ Some e
      → (run (drop i (capture os ms)) ≡ between os i e) × (ending (drop i (capture os ms)) ≡ Some (symbol_at os ms e))
  unfolding find_control
  run_found i e h =
      let r = search_stops is_control os ms same (length os) i e (omega arith) h in
      let u = r.0.forth in
      run_to (e - i) i e (omega arith) r.1 r.0.each r.2

  pub after_found : (i e : ℕ) → find_control (capture os ms) i ≡ Some e → after_start (drop i (capture os ms)) ≡ ended (between os i e) (get_or os e 0)
  unfolding after_start ended_by
  after_found i e h = let r = run_found i e h in ap₂ ended_by r.0 r.1

-- with no control symbol found, nothing ends the run; the buffers may be of any lengths
open_ending : (at : ℕ) (l : List Symbol) → first_where is_control at l ≡ None → ending l ≡ None
unfolding ending is_control
open_ending at [] e = refl
open_ending at (x ∷ xs) e =
    by_test (is_data x)
    (λ d. ending_data x xs d ∙ open_ending (at + 1) xs (sym (where_later is_control at x xs (ap not d)) ∙ e))
    (λ d. absurd (never (sym e ∙ where_here is_control at x xs (ap not d))))

pub after_nothing : (os ms : List ℕ) (i : ℕ) → find_control (capture os ms) i ≡ None → after_start (drop i (capture os ms)) ≡ unended
unfolding find_control after_start ended_by
after_nothing os ms i h = ap (ended_by (run (drop i (capture os ms)))) (open_ending i (drop i (capture os ms)) h)
