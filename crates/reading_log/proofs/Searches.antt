-- The records of a log, and the searches for its last used one and for the next one. Assumes nothing.
use Prim.Native.Nat.{ℕ, zero, suc, ◌+◌, ◌-◌, ◌*◌, ◌/◌, ◌≤◌, ◌<◌}
use native.Mathlib.Omega.{arith}
use native.Mathlib.Nat.{lt_of_not-le, eq-or-lt_of_le}
use mathlib.Core.Path.{◌≡◌, refl, sym, ap, ap₂, ◌∙◌}
use mathlib.Core.Bool.{true, false, ◌&&◌, false≢true}
use mathlib.Core.Logic.{⊎_elim}
use mathlib.Core.List.{List, [], ◌∷◌, ◌++◌}
use lib.ListN.{length, get_or, take, drop, length-take, length-drop, drop_of_length-le, get_or-eq_default}
use lib.Seq.{get_or-take, get_or-drop, drop-drop, length-take-le}
use lib.Dec.{ltb, lit<}
use borrow.Author.Tests.{ltb-true, ltb-false}
use Rattle.line.specs.Limits.{record_size}
use Rattle.line.proofs.Symbols.{by_test}
use Rattle.reading_log.specs.Log.{octets_of_record, record_of, is_used, slot_at, slots_in, slots, all_used, used_ones, used_count, up_to_last, extent}
use Rattle.reading_log.specs.Readers.{skipped, next_used}
use Rattle.reading_log.specs.Claims.{OfOctets, IsMultiple, Used, EveryUsed, IsBehindLast}
use Rattle.reading_log.proofs.Records.{record_stands, octet-unused, octet-used}
use Rattle.reading_log.proofs.Used.{used_keep, used_skip, used_le, last-used, last-unused}

-- ---- the octets of a record

pub slot_first : (l : List ℕ) → slot_at l 0 ≡ take record_size l
unfolding slot_at
slot_first l = refl

pub slot_next : (l : List ℕ) (k : ℕ) → slot_at (drop record_size l) k ≡ slot_at l (suc k)
unfolding slot_at
slot_next l k =
    ap (take record_size) (drop-drop (record_size * k) record_size l
    ∙ ap (λ (i : ℕ). drop i l) (let e : record_size + record_size * k ≡ record_size * suc k = omega arith in e))

-- the part from 16 × k on, 16 octets long
pub part_slot : (l : List ℕ) (k : ℕ) → take (record_size * k + record_size - record_size * k) (drop (record_size * k) l) ≡ slot_at l k
unfolding slot_at
part_slot l k = ap (λ (n : ℕ). take n (drop (record_size * k) l)) (let e : record_size * k + record_size - record_size * k ≡ record_size = omega arith in e)

pub length_slot : (l : List ℕ) (k : ℕ) → record_size * k + record_size ≤ length l → length (slot_at l k) ≡ record_size
unfolding slot_at
length_slot l k h = length-take-le record_size (drop (record_size * k) l) (let d = length-drop (record_size * k) l in omega arith)

-- a record's outcome octet, where it stands in the log
pub outcome-octet : (l : List ℕ) (k : ℕ) → get_or (slot_at l k) 4 0 ≡ get_or l (record_size * k + 4) 0
unfolding slot_at
outcome-octet l k = get_or-take record_size (drop (record_size * k) l) 4 0 (lit< tt) ∙ get_or-drop (record_size * k) l 4 0

pub slot_unused : (l : List ℕ) (k : ℕ) → get_or l (record_size * k + 4) 0 ≡ 0 → is_used (slot_at l k) ≡ false
slot_unused l k h = octet-unused (slot_at l k) (outcome-octet l k ∙ h)

pub slot_used : (l : List ℕ) (k : ℕ) → (get_or l (record_size * k + 4) 0 ≡ 0 → ⊥) → Used l k
slot_used l k h = octet-used (slot_at l k) (λ e. h (sym (outcome-octet l k) ∙ e))

-- a record beyond the end is not used
pub beyond_unused : (l : List ℕ) (k : ℕ) → length l ≤ record_size * k → is_used (slot_at l k) ≡ false
beyond_unused l k h = slot_unused l k (get_or-eq_default l 0 {n = record_size * k + 4} (omega arith))

pub used-inside : (l : List ℕ) (k : ℕ) → Used l k → record_size * k < length l
used-inside l k u = lt_of_not-le (λ h. false≢true (sym (beyond_unused l k h) ∙ u))

pub not-used : (l : List ℕ) (k : ℕ) → (Used l k → ⊥) → is_used (slot_at l k) ≡ false
not-used l k h = by_test (is_used (slot_at l k)) (λ u. absurd (h u)) (λ u. u)

-- what stands there is octets, and written again it gives the same 16
pub slot_octets : (l : List ℕ) (k : ℕ) → OfOctets l → OfOctets (slot_at l k)
unfolding slot_at
slot_octets l k o i =
    by_test (ltb i record_size)
    (λ h. let lt = ltb-true i record_size h in
    rw (get_or-take record_size (drop (record_size * k) l) i 0 lt, get_or-drop (record_size * k) l i 0) (o (record_size * k + i)))
    (λ h. let ge = ltb-false i record_size h in
    rw (get_or-eq_default (take record_size (drop (record_size * k) l)) 0 {n = i} (simp length-take (omega arith))) (lit< tt))

pub slot_again : (l : List ℕ) (k : ℕ) → OfOctets l → record_size * k + record_size ≤ length l → octets_of_record (record_of (slot_at l k)) ≡ slot_at l k
slot_again l k o h = record_stands (slot_at l k) (length_slot l k h) (slot_octets l k o)

pub slot_stands : (l : List ℕ) (k : ℕ) → OfOctets l → IsMultiple l → Used l k → octets_of_record (record_of (slot_at l k)) ≡ slot_at l k
slot_stands l k o m u = let h = used-inside l k u in slot_again l k o (omega arith)

-- ---- the records of a log

pub length-slots_in : (n : ℕ) (l : List ℕ) → length (slots_in n l) ≡ n
unfolding slots_in
length-slots_in zero l = refl
length-slots_in (suc n) l = ap suc (length-slots_in n (drop record_size l))

pub length-slots : (l : List ℕ) → length (slots l) ≡ length l / record_size
unfolding slots
length-slots l = length-slots_in (length l / record_size) l

-- one more at the end; and those from record k on
slots_more : (n : ℕ) (l : List ℕ) → slots_in (suc n) l ≡ slots_in n l ++ (slot_at l n ∷ [])
unfolding slots_in
slots_more zero l = ap (λ (s : List ℕ). s ∷ []) (sym (slot_first l))
slots_more (suc n) l =
    ap (λ (x : List (List ℕ)). take record_size l ∷ x) (slots_more n (drop record_size l))
    ∙ ap (λ (s : List ℕ). take record_size l ∷ (slots_in n (drop record_size l) ++ (s ∷ []))) (slot_next l n)

pub slots_on : (n k : ℕ) (l : List ℕ) → k < n
    → slots_in (n - k) (drop (record_size * k) l) ≡ slot_at l k ∷ slots_in (n - (k + 1)) (drop (record_size * (k + 1)) l)
unfolding slots_in slot_at
slots_on n k l h =
    let e : n - k ≡ suc (n - (k + 1)) = omega arith in
    let d : drop record_size (drop (record_size * k) l) ≡ drop (record_size * (k + 1)) l
    = drop-drop record_size (record_size * k) l ∙ ap (λ (i : ℕ). drop i l) (let g : record_size * k + record_size ≡ record_size * (k + 1) = omega arith in g) in
    ap (λ (m : ℕ). slots_in m (drop (record_size * k) l)) e ∙ ap (λ (t : List ℕ). take record_size (drop (record_size * k) l) ∷ slots_in (n - (k + 1)) t) d

drop-slots_in : (k n : ℕ) (l : List ℕ) → drop k (slots_in n l) ≡ slots_in (n - k) (drop (record_size * k) l)
unfolding slots_in
drop-slots_in zero n l = ap (λ (m : ℕ). slots_in m l) (let e : n ≡ n - 0 = omega arith in e)
drop-slots_in (suc k) zero l = ap (λ (m : ℕ). slots_in m (drop (record_size * suc k) l)) (let e : 0 ≡ 0 - suc k = omega arith in e)
drop-slots_in (suc k) (suc n) l =
    drop-slots_in k n (drop record_size l)
    ∙ ap₂ slots_in (let e : n - k ≡ suc n - suc k = omega arith in e)
    (drop-drop (record_size * k) record_size l ∙ ap (λ (i : ℕ). drop i l) (let e : record_size + record_size * k ≡ record_size * suc k = omega arith in e))

pub slots-from : (l : List ℕ) (k : ℕ) → k < length l / record_size → drop k (slots l) ≡ slot_at l k ∷ drop (k + 1) (slots l)
unfolding slots
slots-from l k h =
    let n : ℕ = length l / record_size in
    drop-slots_in k n l ∙ slots_on n k l h ∙ ap (λ (x : List (List ℕ)). slot_at l k ∷ x) (sym (drop-slots_in (k + 1) n l))

pub slots_end : (l : List ℕ) (k : ℕ) → length l / record_size ≤ k → drop k (slots l) ≡ []
slots_end l k h = drop_of_length-le (slots l) {i = k} (let n = length-slots l in omega arith)

-- ---- how many are used: the turn of a loop that counts

module _ (l : List ℕ) (k : ℕ) (h : k < length l / record_size) where
  pub count-used : Used l k → length (used_ones (drop k (slots l))) ≡ suc (length (used_ones (drop (k + 1) (slots l))))
  count-used u = ap (λ (x : List (List ℕ)). length (used_ones x)) (slots-from l k h) ∙ ap length (used_keep (slot_at l k) _ u)

  pub count-unused : is_used (slot_at l k) ≡ false → length (used_ones (drop k (slots l))) ≡ length (used_ones (drop (k + 1) (slots l)))
  count-unused u = ap (λ (x : List (List ℕ)). length (used_ones x)) (slots-from l k h) ∙ ap length (used_skip (slot_at l k) _ u)

pub count-le : (l : List ℕ) → used_count l ≤ length l / record_size
unfolding used_count
count-le l = let f = used_le (slots l) in let g = length-slots l in omega arith

-- ---- the last used record: the turns of a loop that looks for it from the end

pub up_to_stop : (l : List ℕ) (k : ℕ) → Used l k → up_to_last (slots_in (suc k) l) ≡ suc k
up_to_stop l k u =
    ap up_to_last (slots_more k l) ∙ last-used (slots_in k l) (slot_at l k) u ∙ (let c = length-slots_in k l in omega arith)

pub up_to_turn : (l : List ℕ) (k : ℕ) → is_used (slot_at l k) ≡ false → up_to_last (slots_in (suc k) l) ≡ up_to_last (slots_in k l)
up_to_turn l k u = ap up_to_last (slots_more k l) ∙ last-unused (slots_in k l) (slot_at l k) u

pub up_to_none : (l : List ℕ) → up_to_last (slots_in 0 l) ≡ 0
unfolding up_to_last slots_in
up_to_none l = refl

-- what the number behind it says
up_to_holds : (n : ℕ) (l : List ℕ) (e : ℕ) → e ≡ up_to_last (slots_in n l)
    → (e ≤ n) × (0 < e → Used l (e - 1)) × ((j : ℕ) → e ≤ j → j < n → Used l j → ⊥)
up_to_holds zero l e q =
    let z = q ∙ up_to_none l in
    (omega arith, (λ lt. absurd (let b : ⊥ = omega arith in b)), (λ j le lt u. absurd (let b : ⊥ = omega arith in b)))
up_to_holds (suc n) l e q =
    by_test (is_used (slot_at l n))
    (λ u. let z = q ∙ up_to_stop l n u in
    let g : n ≡ e - 1 = omega arith in
    (omega arith, (λ _. ap (λ (k : ℕ). is_used (slot_at l k)) (sym g) ∙ u), (λ j le lt _. absurd (let b : ⊥ = omega arith in b))))
    (λ u. let ih = up_to_holds n l e (q ∙ up_to_turn l n u) in (
      (let b = ih.0 in omega arith),
      ih.1,
      (λ j le lt v. ⊎_elim (λ g. false≢true (sym u ∙ ap (λ (k : ℕ). is_used (slot_at l k)) (sym g) ∙ v)) (λ less. ih.2 j le less v)
          (eq-or-lt_of_le (let b : j ≤ n = omega arith in b))),
    ))

pub extent-holds : (l : List ℕ) → IsBehindLast l (extent l)
unfolding extent slots
extent-holds l = up_to_holds (length l / record_size) l _ refl

-- and only that number says it
up_to_is : (l : List ℕ) (k m : ℕ) → (0 < k → Used l (k - 1)) → ((j : ℕ) → k ≤ j → j < k + m → Used l j → ⊥) → up_to_last (slots_in (k + m) l) ≡ k
up_to_is l zero zero u none = up_to_none l
up_to_is l (suc k) zero u none =
    ap (λ (i : ℕ). up_to_last (slots_in i l)) (let e : suc k + 0 ≡ suc k = omega arith in e)
    ∙ up_to_stop l k (ap (λ (i : ℕ). is_used (slot_at l i)) (let e : k ≡ suc k - 1 = omega arith in e) ∙ u (omega arith))
up_to_is l k (suc m) u none =
    ap (λ (i : ℕ). up_to_last (slots_in i l)) (let e : k + suc m ≡ suc (k + m) = omega arith in e)
    ∙ up_to_turn l (k + m) (not-used l (k + m) (none (k + m) (omega arith) (omega arith)))
    ∙ up_to_is l k m u (λ j le lt. none j le (omega arith))

pub extent-is : (l : List ℕ) (k : ℕ) → IsBehindLast l k → extent l ≡ k
unfolding extent slots
extent-is l k h =
    let n = length l / record_size in
    let e : n ≡ k + (n - k) = omega (arith, h.0) in
    ap (λ (i : ℕ). up_to_last (slots_in i l)) e ∙ up_to_is l k (n - k) h.1 (λ j le lt. h.2 j le (omega arith))

pub extent-le : (l : List ℕ) → extent l ≤ length l / record_size
extent-le l = (extent-holds l).0

-- ---- "no unused record": each one is used

pub every_in : (n : ℕ) (l : List ℕ) → all_used (slots_in n l) ≡ true → (k : ℕ) → k < n → Used l k
unfolding slots_in all_used
every_in zero l u k h = absurd (let z : ⊥ = omega arith in z)
every_in (suc n) l u zero h = ap is_used (slot_first l) ∙ by_test (is_used (take record_size l)) (λ t. t) (λ t. absurd (false≢true (rw t at u)))
every_in (suc n) l u (suc k) h =
    by_test (is_used (take record_size l)) (λ t. ap is_used (sym (slot_next l k)) ∙ every_in n (drop record_size l) (rw t at u) k (omega arith))
    (λ t. absurd (false≢true (rw t at u)))

in_every : (n : ℕ) (l : List ℕ) → ((k : ℕ) → k < n → Used l k) → all_used (slots_in n l) ≡ true
unfolding slots_in all_used
in_every zero l h = refl
in_every (suc n) l h =
    ap₂ ◌&&◌ (ap is_used (sym (slot_first l)) ∙ h 0 (omega arith))
    (in_every n (drop record_size l) (λ k lt. ap is_used (slot_next l k) ∙ h (suc k) (omega arith)))

pub every_used : (l : List ℕ) → all_used (slots l) ≡ true → EveryUsed l
unfolding slots
every_used l u = every_in (length l / record_size) l u

pub used_every : (l : List ℕ) → EveryUsed l → all_used (slots l) ≡ true
unfolding slots
used_every l h = in_every (length l / record_size) l h

-- ---- the next used record: the turns of a loop that looks for it

pub next_stop : (l : List ℕ) (k : ℕ) → k < length l / record_size → Used l k → next_used l k ≡ k
unfolding next_used skipped
next_stop l k h u = rw (slots-from l k h, skipped, u) (let e : k + 0 ≡ k = omega arith in e)

pub next_turn : (l : List ℕ) (k : ℕ) → k < length l / record_size → is_used (slot_at l k) ≡ false → next_used l k ≡ next_used l (k + 1)
unfolding next_used skipped
next_turn l k h u =
    rw (slots-from l k h, skipped, u)
    (let e : k + (1 + skipped (drop (k + 1) (slots l))) ≡ k + 1 + skipped (drop (k + 1) (slots l)) = omega arith in e)

pub next-end : (l : List ℕ) (k : ℕ) → length l / record_size ≤ k → next_used l k ≡ k
unfolding next_used skipped
next-end l k h = rw (slots_end l k h, skipped) (let e : k + 0 ≡ k = omega arith in e)
