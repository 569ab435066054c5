-- The next used record of a log; and a log without deletions, in which none is unused before a used one. Assumes nothing.
use Prim.Native.Nat.{ℕ, zero, suc, ◌+◌, ◌-◌, ◌/◌, ◌≤◌, ◌<◌}
use native.Mathlib.Omega.{arith}
use native.Mathlib.Nat.{lt_of_not-le, eq-or-lt_of_le}
use mathlib.Core.Path.{◌≡◌, refl, sym, ap, ◌∙◌}
use mathlib.Core.Bool.{true, false, false≢true}
use mathlib.Core.Logic.{◌⊎◌, inl, inr, ⊎_elim}
use mathlib.Core.List.{List, [], ◌∷◌, map}
use lib.ListN.{length, take, drop}
use lib.Dec.{ltb}
use borrow.Author.Tests.{ltb-true, ltb-false}
use Rattle.line.specs.Limits.{record_size}
use Rattle.line.proofs.Symbols.{by_test}
use Rattle.reading_log.specs.declared.Record.{Record}
use Rattle.reading_log.specs.Log.{record_of, is_used, slot_at, slots_in, slots, all_used, used_ones, used_count, remaining, up_to_last, extent}
use Rattle.reading_log.specs.Readers.{next_used}
use Rattle.reading_log.specs.Claims.{front, read_back, AllFit, filled, IsMultiple, Used, IsFirstUnused, NoHole, IsBehindLast, IsNextUsed}
use Rattle.reading_log.proofs.Used.{used-none, used_keep, used_skip, used-full, used-up_to}
use Rattle.reading_log.proofs.Searches.{slot_first, slot_next, used-inside, not-used, length-slots_in, slots-from, slots_end, extent-holds, every_in}
use Rattle.reading_log.proofs.Searches.{next_stop, next_turn, next-end}
use Rattle.reading_log.proofs.Filled.{AllCount, filled_multiple, extent-filled, count-filled, remaining-filled}

pub inside : (l : List ℕ) (k : ℕ) → IsMultiple l → Used l k → k < length l / record_size
inside l k good u = let h = used-inside l k u in omega arith

-- ---- the next used record

-- where it is
next-from : (l : List ℕ) (m at : ℕ) → at + m < length l / record_size → Used l (at + m) → ((j : ℕ) → at ≤ j → j < at + m → Used l j → ⊥)
    → next_used l at ≡ at + m
next-from l zero at h u none =
    let e : at + 0 ≡ at = omega arith in
    next_stop l at (omega arith) (ap (λ (k : ℕ). is_used (slot_at l k)) (sym e) ∙ u) ∙ sym e
next-from l (suc m) at h u none =
    let e : at + suc m ≡ at + 1 + m = omega arith in
    next_turn l at (omega arith) (not-used l at (none at (omega arith) (omega arith)))
    ∙ next-from l m (at + 1) (omega arith) (ap (λ (k : ℕ). is_used (slot_at l k)) (sym e) ∙ u) (λ j le lt. none j (omega arith) (omega arith))
    ∙ sym e

pub next-is : (l : List ℕ) (at k : ℕ) → IsMultiple l → IsNextUsed l at k → next_used l at ≡ k
next-is l at k good h =
    let e : at + (k - at) ≡ k = omega (arith, h.0) in
    let i = inside l k good h.1 in
    next-from l (k - at) at (omega arith) (ap (λ (j : ℕ). is_used (slot_at l j)) e ∙ h.1) (λ j le lt. h.2 j le (omega arith)) ∙ e

-- there is one, or there is none from there on
abbrev pub Found : List ℕ → ℕ → ℕ → Type 0
Found l at e = IsNextUsed l at e ⊎ ((length l / record_size ≤ e) × ((j : ℕ) → at ≤ j → j < length l / record_size → Used l j → ⊥))

-- record `at` is not used
found_on : (l : List ℕ) (at e : ℕ) → is_used (slot_at l at) ≡ false → Found l (at + 1) e → Found l at e
found_on l at e u f =
    ⊎_elim {C = Found l at e}
    (λ h. inl ((let b = h.0 in omega arith), h.1, λ j le lt. but j le (λ less. h.2 j less lt)))
    (λ h. inr (h.0, λ j le lt. but j le (λ less. h.1 j less lt)))
    f
  where
    but : (j : ℕ) → at ≤ j → (at + 1 ≤ j → Used l j → ⊥) → Used l j → ⊥
    but j le h v =
        ⊎_elim {C = ⊥} (λ q. false≢true (sym u ∙ ap (λ (i : ℕ). is_used (slot_at l i)) q ∙ v)) (λ lt. h (omega arith) v) (eq-or-lt_of_le le)

found_end : (l : List ℕ) (at e : ℕ) → length l / record_size ≤ at → e ≡ next_used l at → Found l at e
found_end l at e h q = let z = q ∙ next-end l at h in inr (omega arith, λ j le lt _. absurd (let b : ⊥ = omega arith in b))

found_from : (l : List ℕ) (m at e : ℕ) → length l / record_size ≤ at + m → e ≡ next_used l at → Found l at e
found_from l zero at e h q = found_end l at e (omega arith) q
found_from l (suc m) at e h q =
    by_test (ltb at (length l / record_size))
    (λ t. let less = ltb-true at (length l / record_size) t in
    by_test (is_used (slot_at l at))
    (λ u. let z = q ∙ next_stop l at less u in
    inl (omega arith, ap (λ (i : ℕ). is_used (slot_at l i)) z ∙ u, λ j le lt _. absurd (let b : ⊥ = omega arith in b)))
    (λ u. found_on l at e u (found_from l m (at + 1) e (omega arith) (q ∙ next_turn l at less u))))
    (λ t. found_end l at e (ltb-false at (length l / record_size) t) q)

pub found : (l : List ℕ) (at : ℕ) → Found l at (next_used l at)
found l at = found_from l (length l / record_size) at (next_used l at) (omega arith) refl

-- what remains from there on is what remains from the next one on
pub skip_to : (l : List ℕ) (m at : ℕ) → at + m ≤ length l / record_size → ((j : ℕ) → at ≤ j → j < at + m → Used l j → ⊥)
    → used_ones (drop at (slots l)) ≡ used_ones (drop (at + m) (slots l))
skip_to l zero at h none = ap (λ (k : ℕ). used_ones (drop k (slots l))) (let e : at ≡ at + 0 = omega arith in e)
skip_to l (suc m) at h none =
    ap used_ones (slots-from l at (omega arith))
    ∙ used_skip (slot_at l at) _ (not-used l at (none at (omega arith) (omega arith)))
    ∙ skip_to l m (at + 1) (omega arith) (λ j le lt. none j (omega arith) (omega arith))
    ∙ ap (λ (k : ℕ). used_ones (drop k (slots l))) (let e : at + 1 + m ≡ at + suc m = omega arith in e)

-- and none remains where none is used from there on
pub rest-none : (l : List ℕ) (k : ℕ) → ((j : ℕ) → k ≤ j → j < length l / record_size → Used l j → ⊥) → used_ones (drop k (slots l)) ≡ []
rest-none l k none =
    let n = length l / record_size in
    by_test (ltb k n)
    (λ t. let lt = ltb-true k n t in
    skip_to l (n - k) k (omega arith) (λ j le less. none j le (omega arith))
    ∙ ap used_ones (slots_end l (k + (n - k)) (omega arith))
    ∙ used-none)
    (λ t. ap used_ones (slots_end l k (ltb-false k n t)) ∙ used-none)

-- ---- a log without deletions

-- "the first unused one" lies behind the last used one
pub first-behind : (l : List ℕ) (k : ℕ) → NoHole l → IsFirstUnused l k → IsBehindLast l k
first-behind l k whole h = (
  omega (arith, h.0),
  (λ lt. h.1 (k - 1) (omega arith)),
  (λ j le lt u. ⊎_elim {C = ⊥} (λ e. h.2 (ap (λ (i : ℕ). is_used (slot_at l i)) e ∙ u)) (λ less. h.2 (whole k j less u)) (eq-or-lt_of_le le)),
)

-- the records up to the first unused one are those that remain
front-cons : (n : ℕ) (l : List ℕ) → is_used (take record_size l) ≡ true
    → front (slots_in (suc n) l) ≡ take record_size l ∷ front (slots_in n (drop record_size l))
unfolding slots_in front
front-cons n l h = rw (slots_in, front, h)

front_stops : (n : ℕ) (l : List ℕ) → is_used (take record_size l) ≡ false → front (slots_in (suc n) l) ≡ []
unfolding slots_in front
front_stops n l h = rw (slots_in, front, h)

none-used : (n : ℕ) (l : List ℕ) → ((k : ℕ) → Used l k → ⊥) → used_ones (slots_in n l) ≡ []
unfolding slots_in
none-used zero l h = used-none
none-used (suc n) l h =
    used_skip (take record_size l) _ (ap is_used (sym (slot_first l)) ∙ not-used l 0 (h 0))
    ∙ none-used n (drop record_size l) (λ k u. h (suc k) (ap is_used (sym (slot_next l k)) ∙ u))

front-used : (n : ℕ) (l : List ℕ) → NoHole l → front (slots_in n l) ≡ used_ones (slots_in n l)
unfolding slots_in
front-used zero l whole = let e : front [] ≡ [] = (unfold front in refl) in e ∙ sym used-none
front-used (suc n) l whole =
    let next : (j k : ℕ) → j < k → Used (drop record_size l) k → Used (drop record_size l) j
    = λ j k lt u. ap is_used (slot_next l j) ∙ whole (suc j) (suc k) (omega arith) (ap is_used (sym (slot_next l k)) ∙ u) in
    by_test (is_used (take record_size l))
    (λ u. front-cons n l u ∙ ap (λ (x : List (List ℕ)). take record_size l ∷ x) (front-used n (drop record_size l) next)
    ∙ sym (used_keep (take record_size l) _ u))
    (λ u. front_stops n l u
    ∙ sym (used_skip (take record_size l) _ u
    ∙ none-used n (drop record_size l)
    (λ k v. false≢true (sym u ∙ ap is_used (sym (slot_first l)) ∙ whole 0 (suc k) (omega arith) (ap is_used (sym (slot_next l k)) ∙ v)))))

pub reads-remaining : (l : List ℕ) → NoHole l → read_back l ≡ remaining l
unfolding read_back remaining slots
reads-remaining l whole = ap (map record_of) (front-used (length l / record_size) l whole)

-- there are as many up to the last used one as are used: none is unused before it
take-slots_in : (k n : ℕ) (l : List ℕ) → k ≤ n → take k (slots_in n l) ≡ slots_in k l
unfolding slots_in
take-slots_in zero n l h = refl
take-slots_in (suc k) zero l h = absurd (let z : ⊥ = omega arith in z)
take-slots_in (suc k) (suc n) l h = ap (λ (x : List (List ℕ)). take record_size l ∷ x) (take-slots_in k n (drop record_size l) (omega arith))

up_to_used : (l : List ℕ) → extent l ≡ used_count l → all_used (slots_in (extent l) l) ≡ true
unfolding extent used_count slots
up_to_used l e =
    let n = length l / record_size in
    let ss = slots_in n l in
    let k = up_to_last ss in
    let t : take k ss ≡ slots_in k l = take-slots_in k n l (unfold extent slots in (extent-holds l).0) in
    used-full (slots_in k l) (ap (λ (x : List (List ℕ)). length (used_ones x)) (sym t) ∙ ap length (used-up_to ss) ∙ sym e ∙ sym (length-slots_in k l))

pub no_hole : (l : List ℕ) → IsMultiple l → extent l ≡ used_count l → NoHole l
no_hole l good e j k lt u =
    let i = inside l k good u in
    let below : k < extent l = lt_of_not-le (λ ge. (extent-holds l).2 k ge i u) in
    every_in (extent l) l (up_to_used l e) j (omega arith)

-- so it is where records were appended to zero octets
module _ (n : ℕ) (rs : List Record) (small : length rs ≤ n) (fit : AllFit rs) (count : AllCount rs) where
  pub filled_no_hole : NoHole (filled n rs)
  filled_no_hole =
      no_hole (filled n rs) (filled_multiple n rs small) (extent-filled n rs small fit count ∙ sym (count-filled n rs small fit count))

  pub read-filled : read_back (filled n rs) ≡ rs
  read-filled = reads-remaining (filled n rs) filled_no_hole ∙ remaining-filled n rs small fit count
