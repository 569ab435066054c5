-- The claims of document 02, item 11, as theorems. Compaction: `compact_keeps`, `compact_front`, `compact_twice`, `compact_reads`, `compact_no_hole`,
-- `written-again`. Appending: `append-adds`. Deleting: `delete_removes`. And the exact refusals of the new calls: `delete_refuses`, `outcome_refuses`,
-- `compact_refuses`, `count_refuses`. What the reader hands out is in proofs/Claims. Assumes nothing.
use Prim.Native.Nat.{ℕ, zero, suc, ◌+◌, ◌-◌, ◌*◌, ◌/◌, ◌≤◌, ◌<◌}
use native.Mathlib.Omega.{arith}
use native.Mathlib.Nat.{lt_of_not-le}
use mathlib.Core.Path.{◌≡◌, refl, sym, ap, ap₂, ◌∙◌, subst}
use mathlib.Core.Bool.{true, false, ◌&&◌, false≢true}
use mathlib.Core.Logic.{inl, inr}
use mathlib.Core.List.{List, [], ◌∷◌, ◌++◌, map}
use mathlib.Core.Option.{some}
use lib.ListN.{length, get_or, take, drop, set, length-append, length-map, length-set, take-append-drop, get_or-eq_default}
use lib.Seq.{take_all, get_or-drop, get_or-set_same, set_split, take-set-lt, take-set-le, drop-set-lt, drop-set-add}
use lib.Dec.{eqb, ltb, lit<}
use borrow.Author.Tests.{eq-eqb, eqb-true, ltb-true, ltb-false}
use Rattle.line.specs.Limits.{record_size}
use Rattle.line.specs.Octets.{low_first}
use Rattle.line.proofs.Symbols.{by_test}
use Rattle.reading_log.specs.declared.Record.{Record}
use Rattle.reading_log.specs.Numbers.{logged_refusal, log_number_refusal, log_number_value}
use Rattle.reading_log.specs.Log.{octets_of_record, record_of, is_used, slot_at, slots_in, slots, all_used, used_ones, used_count, remaining}
use Rattle.reading_log.specs.Log.{at_front, compacted, bad_log, Logging, appending, used_records}
use Rattle.reading_log.specs.Room.{deleting, has_outcome, deleted_all, count_of, Numbered, deleting_all, compacting}
use Rattle.reading_log.specs.Claims.{zero_log, append_all, filled, Fits, AllFit, OfOctets, IsMultiple, Used, EveryUsed, NoHole}
use Rattle.reading_log.specs.Claims.{before, behind, Removes, others, unused_count, DeletesOrRefuses, DeletesAllOrRefuses, CompactsOrRefuses, CountsOrRefuses}
use Rattle.reading_log.proofs.Records.{record_stands, record_fits, used-counts, octet-unused}
use Rattle.reading_log.proofs.Used.{used-none, used_keep, used_skip, used-append, all_kept, kept_all}
use Rattle.reading_log.proofs.Searches.{slot_first, slot_next, slot_octets, slot_unused, length-slots, slots-from, every_used, count-le}
use Rattle.reading_log.proofs.Calls.{good_log, good_mod, bad_mod, delete_bad, delete_unused, delete_used, outcome_bad, outcome_good}
use Rattle.reading_log.proofs.Calls.{compact_bad, compact_good, count_bad, count_good}
use Rattle.reading_log.proofs.Filled.{Whole, whole_used, whole_slots, slots_side, octets_of, AllCount, back_all}
use Rattle.reading_log.proofs.Filled.{length-compacted, used-compacted, extent-compacted, full-count, length-appended, used-appended}
use Rattle.reading_log.proofs.Kept.{deleted_yes, deleted_no, count_yes, count_no, none-deleted}
use Rattle.reading_log.proofs.Holes.{inside, no_hole}
use Rattle.reading_log.proofs.Claims.{log-holds, count_kept, both, neither, other, not-eleven}

-- ---- compaction

-- the log and the number that a call gives
abbrev log_of : Logging → List ℕ
log_of x = x.log

abbrev num : Logging → ℕ
num x = logged_refusal x.given

module _ (l : List ℕ) (good : IsMultiple l) where
  -- "moves the remaining ones to the front in their order": the used records of the compacted log are those of the log, octet for octet
  pub compact_keeps : used_ones (slots (compacted l)) ≡ used_ones (slots l)
  compact_keeps = used-compacted l good

  multiple : IsMultiple (compacted l)
  multiple = let e = length-compacted l good in omega arith

  twice : compacted (compacted l) ≡ compacted l
  unfolding compacted
  twice = ap₂ (λ (k : ℕ) (ss : List (List ℕ)). at_front (k / record_size) ss) (unfold compacted in length-compacted l good) (unfold compacted in compact_keeps)

  -- none is unused before a used one
  pub compact_no_hole : NoHole (compacted l)
  compact_no_hole =
      no_hole (compacted l) multiple (extent-compacted l good ∙ (unfold used_count in ap length (sym compact_keeps)))

-- "doing it twice changes nothing more": of any log, a refused one too
pub compact_twice : (l : List ℕ) → (compacting (compacting l).log).log ≡ (compacting l).log
compact_twice l =
    by_test (bad_log l) (λ b. ap (λ (x : List ℕ). (compacting x).log) (ap log_of (compact_bad l b)))
    (λ g. let good = good_mod l g in
    let e : (compacting l).log ≡ compacted l = ap log_of (compact_good l g) in
    ap (λ (x : List ℕ). (compacting x).log) e
    ∙ ap log_of (compact_good (compacted l) (good_log (compacted l) (multiple l good)))
    ∙ twice l good
    ∙ sym e)

-- the same records remain
pub compact_reads : (l : List ℕ) → remaining (compacting l).log ≡ remaining l
unfolding remaining
compact_reads l =
    by_test (bad_log l) (λ b. ap (λ (x : Logging). map record_of (used_ones (slots x.log))) (compact_bad l b))
    (λ g. ap (λ (x : Logging). map record_of (used_ones (slots x.log))) (compact_good l g) ∙ ap (map record_of) (compact_keeps l (good_mod l g)))

-- ---- written again

unfoldable AllOctets : List (List ℕ) → Type 0
AllOctets [] = Unit {0}
AllOctets (s ∷ ss) = OfOctets s × AllOctets ss

octets_in_lem : (n : ℕ) (l : List ℕ) → OfOctets l → AllOctets (slots_in n l)
unfolding slots_in AllOctets
octets_in_lem zero l o = tt
octets_in_lem (suc n) l o = (
  subst OfOctets (slot_first l) (slot_octets l 0 o),
  octets_in_lem n (drop record_size l) (λ i. subst (λ (k : ℕ). k < 256) (sym (get_or-drop record_size l i 0)) (o (record_size + i))),
)

octets-used : (ss : List (List ℕ)) → AllOctets ss → AllOctets (used_ones ss)
unfolding AllOctets
octets-used [] o = rw used-none tt
octets-used (s ∷ ss) o =
    by_test (is_used s) (λ u. rw (used_keep s ss u) (o.0, octets-used ss o.1)) (λ u. rw (used_skip s ss u) (octets-used ss o.1))

-- what is read of records of 16 octets each has its widths, and is written as they stand
records_fit : (ss : List (List ℕ)) → AllOctets ss → AllFit (map record_of ss)
unfolding AllOctets AllFit
records_fit [] o = tt
records_fit (s ∷ ss) o = (record_fits s o.0, records_fit ss o.1)

records-again : (ss : List (List ℕ)) → Whole ss → AllOctets ss → octets_of (map record_of ss) ≡ ss
unfolding Whole AllOctets
records-again [] w o = refl
records-again (s ∷ ss) w o = ap₂ (λ (x : List ℕ) (y : List (List ℕ)). x ∷ y) (record_stands s w.0 o.0) (records-again ss w.1 o.1)

records-count : (ss : List (List ℕ)) → Whole ss → AllOctets ss → all_used ss ≡ true → AllCount (map record_of ss)
unfolding Whole AllOctets AllCount all_used
records-count [] w o u = tt
records-count (s ∷ ss) w o u =
    by_test (is_used s)
    (λ t. (sym (used-counts (record_of s) (record_fits s o.0)) ∙ ap is_used (record_stands s w.0 o.0) ∙ t, records-count ss w.1 o.1 (rw t at u)))
    (λ t. absurd (false≢true (rw t at u)))

module _ (l : List ℕ) (n : ℕ) (size : length l ≡ record_size * n) (octets : OfOctets l) where
  good : IsMultiple l
  good = omega arith

  abbrev us : List (List ℕ)
  us = used_ones (slots l)

  whole : Whole us
  whole = whole_used (slots l) (whole_slots l good)

  all : AllOctets us
  unfolding slots
  all = octets-used (slots_in (length l / record_size) l) (octets_in_lem (length l / record_size) l octets)

  -- "moves the remaining ones to the front … and fills the rest with zero octets"
  pub compact_front : (compacting l).log ≡ filled n (remaining l)
  unfolding compacted filled remaining
  compact_front =
      ap log_of (compact_good l (good_log l good))
      ∙ ap₂ at_front (let e : length l / record_size ≡ n = omega arith in e) (sym (records-again us whole all))

  -- "written into a zero log of that length they give the compacted one"
  pub written-again : append_all (zero_log n) (remaining l) ≡ (compacting l).log
  unfolding remaining
  written-again =
      let rs = map record_of us in
      let count = records-count us whole all (kept_all (slots l)) in
      let small : length rs ≤ n
      = (let a = length-map us record_of in let b : length us ≤ length l / record_size = (unfold used_count in count-le l) in omega arith) in
      log-holds n rs (records_fit us all)
      ∙ ap (λ (x : List Record). filled n (take n x)) (count_kept rs count)
      ∙ ap (filled n) (take_all n rs small)
      ∙ sym compact_front

-- ---- one record appended

map-append : (us vs : List (List ℕ)) → map record_of (us ++ vs) ≡ map record_of us ++ map record_of vs
map-append [] vs = refl
map-append (u ∷ us) vs = ap (λ (x : List Record). record_of u ∷ x) (map-append us vs)

-- "Appending now goes after the last used record": what is appended remains, behind all that remained
pub append-adds : (l : List ℕ) (r : Record) → IsMultiple l → Fits r → (r.outcome ≡ 0 → ⊥) → (EveryUsed l → ⊥)
    → remaining (appending l r).log ≡ remaining l ++ (r ∷ [])
unfolding remaining AllFit
append-adds l r good f has free =
    let room : all_used (slots l) ≡ false = by_test (all_used (slots l)) (λ u. absurd (free (every_used l u))) (λ u. u) in
    ap (map record_of) (used-appended l good r has f room)
    ∙ map-append (used_ones (slots l)) (octets_of_record r ∷ [])
    ∙ ap (λ (x : List Record). map record_of (used_ones (slots l)) ++ x) (back_all (r ∷ []) (f, tt))

-- one record fewer is unused, and none where every one is used
pub unused-appended : (l : List ℕ) (r : Record) → IsMultiple l → Fits r → (r.outcome ≡ 0 → ⊥) → all_used (slots l) ≡ false
    → unused_count l ≡ suc (unused_count (appending l r).log)
unfolding unused_count used_count
unused-appended l r good f has room =
    let us = used_ones (slots l) in
    let a = ap length (used-appended l good r has f room) ∙ length-append us (octets_of_record r ∷ []) in
    let b = length-appended l good r has room in
    let c : length us ≤ length l / record_size = (unfold used_count in count-le l) in
    let d : length us ≡ length l / record_size → ⊥ = λ e. false≢true (sym room ∙ (unfold used_count in full-count l good e)) in
    let g : length us < length l / record_size = lt_of_not-le (λ h. d (omega arith)) in
    omega arith

pub unused-none : (l : List ℕ) → all_used (slots l) ≡ true → unused_count l ≡ 0
unfolding unused_count used_count
unused-none l u = let e = ap length (all_kept (slots l) u) ∙ length-slots l in omega arith

-- ---- one record deleted

slots_set : (n k : ℕ) (l : List ℕ) → k < n → slots_in n (set l (record_size * k + 4) 0) ≡ set (slots_in n l) k (set (slot_at l k) 4 0)
unfolding slots_in
slots_set zero k l h = absurd (let z : ⊥ = omega arith in z)
slots_set (suc n) zero l h =
    ap₂ (λ (x y : List ℕ). x ∷ slots_in n y) (take-set-lt record_size l 4 0 (lit< tt) ∙ ap (λ (s : List ℕ). set s 4 0) (sym (slot_first l)))
    (drop-set-lt record_size l 4 0 (lit< tt))
slots_set (suc n) (suc k) l h =
    let t : take record_size (set l (record_size * suc k + 4) 0) ≡ take record_size l = take-set-le record_size l (record_size * suc k + 4) 0 (omega arith) in
    let d : drop record_size (set l (record_size * suc k + 4) 0) ≡ set (drop record_size l) (record_size * k + 4) 0
    = ap (λ (j : ℕ). drop record_size (set l j 0)) (let e : record_size * suc k + 4 ≡ record_size + (record_size * k + 4) = omega arith in e)
    ∙ drop-set-add record_size l (record_size * k + 4) 0 in
    ap₂ (λ (x y : List ℕ). x ∷ slots_in n y) t d
    ∙ ap (λ (x : List (List ℕ)). take record_size l ∷ x)
    (slots_set n k (drop record_size l) (omega arith) ∙ ap (λ (s : List ℕ). set (slots_in n (drop record_size l)) k (set s 4 0)) (slot_next l k))

-- its octets do not count as used
set-octet : (s : List ℕ) → get_or (set s 4 0) 4 0 ≡ 0
set-octet s =
    by_test (ltb 4 (length s)) (λ t. get_or-set_same s 4 0 0 (ltb-true 4 (length s) t))
    (λ t. get_or-eq_default (set s 4 0) 0 {n = 4} (simp length-set (ltb-false 4 (length s) t)))

set-unused : (s : List ℕ) → is_used (set s 4 0) ≡ false
set-unused s = octet-unused (set s 4 0) (set-octet s)

module _ (l : List ℕ) (k : ℕ) (good : IsMultiple l) (used : Used l k) where
  abbrev ss : List (List ℕ)
  ss = slots l

  -- the records of the log after that
  slots-deleted : slots (deleting l k).log ≡ take k ss ++ (set (slot_at l k) 4 0 ∷ drop (k + 1) ss)
  unfolding slots
  slots-deleted =
      let n = length l / record_size in
      let i = inside l k good used in
      let m : length (slots_in n l) ≡ n = (unfold slots in length-slots l) in
      ap (λ (x : Logging). slots_in (length x.log / record_size) x.log) (delete_used l k (good_log l good) used)
      ∙ ap (λ (j : ℕ). slots_in (j / record_size) (set l (record_size * k + 4) 0)) (length-set l (record_size * k + 4) 0)
      ∙ slots_set n k l i
      ∙ set_split (slots_in n l) k (set (slot_at l k) 4 0) (omega arith)
      ∙ ap (λ (j : ℕ). take k (slots_in n l) ++ (set (slot_at l k) 4 0 ∷ drop j (slots_in n l))) (let e : suc k ≡ k + 1 = omega arith in e)

  -- "the remaining ones": all but the deleted one
  pub delete_removes : Removes l k
  unfolding remaining before behind
  delete_removes =
      let b = used_ones (take k ss) in
      let d = drop (k + 1) ss in
      record {
        was = ap (λ (x : List (List ℕ)). map record_of (used_ones x)) (sym (take-append-drop k ss))
            ∙ ap (map record_of) (used-append (take k ss) (drop k ss))
            ∙ ap (λ (x : List (List ℕ)). map record_of (b ++ used_ones x)) (slots-from l k (inside l k good used))
            ∙ ap (λ (x : List (List ℕ)). map record_of (b ++ x)) (used_keep (slot_at l k) d used)
            ∙ map-append b (slot_at l k ∷ used_ones d);
        is = ap (λ (x : List (List ℕ)). map record_of (used_ones x)) slots-deleted
            ∙ ap (map record_of) (used-append (take k ss) (set (slot_at l k) 4 0 ∷ d))
            ∙ ap (λ (x : List (List ℕ)). map record_of (b ++ x)) (used_skip (set (slot_at l k) 4 0) d (set-unused (slot_at l k)))
            ∙ map-append b (used_ones d);
      }

-- deleting gives 11 and 13 as reading a record does
pub delete_refuses : (l : List ℕ) (k : ℕ) → DeletesOrRefuses l k
delete_refuses l k =
    by_test (bad_log l)
    (λ b. let e = delete_bad l k b in
    let n : num (deleting l k) ≡ 11 = ap num e in
    record {
      listed = inr (inl n);
      eleven = both n (bad_mod l b);
      thirteen = neither (other 13 n refl) (λ q. bad_mod l b q.0);
      refused = λ _. ap log_of e;
      deletes = λ m u. absurd (bad_mod l b m);
      unused = λ m u. absurd (bad_mod l b m);
    })
    (λ g. by_test (is_used (slot_at l k))
    (λ u. let e = delete_used l k g u in
    let n : num (deleting l k) ≡ 0 = ap num e in
    let gone : is_used (slot_at (deleting l k).log k) ≡ false = ap (λ (x : Logging). is_used (slot_at x.log k)) e ∙ slot_unused _ k (octet_gone l k u) in
    record {
      listed = inl n;
      eleven = not-eleven l g (other 11 n refl);
      thirteen = neither (other 13 n refl) (λ q. q.1 u);
      refused = λ q. absurd (let z : ⊥ = omega arith in z);
      deletes = λ _ _. ap log_of e;
      unused = λ _ _ v. false≢true (sym gone ∙ v);
    })
    (λ u. let e = delete_unused l k g u in
    let n : num (deleting l k) ≡ 13 = ap num e in
    record {
      listed = inr (inr n);
      eleven = not-eleven l g (other 11 n refl);
      thirteen = both n (good_mod l g, λ t. false≢true (sym u ∙ t));
      refused = λ _. ap log_of e;
      deletes = λ _ t. absurd (false≢true (sym u ∙ t));
      unused = λ _ t. absurd (false≢true (sym u ∙ t));
    }))
  where
    octet_gone : (l : List ℕ) (k : ℕ) → Used l k → get_or (set l (record_size * k + 4) 0) (record_size * k + 4) 0 ≡ 0
    octet_gone l k u =
        by_test (ltb (record_size * k + 4) (length l)) (λ t. get_or-set_same l (record_size * k + 4) 0 0 (ltb-true (record_size * k + 4) (length l) t))
        (λ t. get_or-eq_default (set l (record_size * k + 4) 0) 0 {n = record_size * k + 4} (simp length-set (ltb-false (record_size * k + 4) (length l) t)))

-- ---- the records of an outcome deleted

outcome-read : (s : List ℕ) → (record_of s).outcome ≡ get_or s 4 0
unfolding record_of low_first
outcome-read s = omega arith

module _ (o : ℕ) (r : Record) (rs : List Record) where
  others_skip : r.outcome ≡ o → others o (r ∷ rs) ≡ others o rs
  unfolding others
  others_skip e = rw (eq-eqb r.outcome o e, others)

  others_keep : eqb r.outcome o ≡ false → others o (r ∷ rs) ≡ r ∷ others o rs
  unfolding others
  others_keep e = rw (e, others)

-- a record has the outcome, or is used with another one, or is not used
by-outcome : {P : Type 0} (o : ℕ) (s : List ℕ) → (is_used s ≡ true → has_outcome o s ≡ true → get_or s 4 0 ≡ o → P)
    → (is_used s ≡ true → has_outcome o s ≡ false → eqb (get_or s 4 0) o ≡ false → P)
    → (is_used s ≡ false → has_outcome o s ≡ false → P)
    → P
unfolding has_outcome
by-outcome o s has another unused =
    by_test (is_used s)
    (λ u. by_test (eqb (get_or s 4 0) o) (λ t. has u (ap₂ ◌&&◌ u t) (eqb-true (get_or s 4 0) o t)) (λ t. another u (ap₂ ◌&&◌ u t) t))
    (λ u. unused u (ap (λ (b : _). b && eqb (get_or s 4 0) o) u))

others_remain : (o : ℕ) (ss : List (List ℕ)) → map record_of (used_ones (deleted_all o ss)) ≡ others o (map record_of (used_ones ss))
others_remain o [] =
    let a : deleted_all o [] ≡ [] = (unfold deleted_all in refl) in
    let b : others o [] ≡ [] = (unfold others in refl) in
    ap (λ (x : List (List ℕ)). map record_of (used_ones x)) a
    ∙ ap (map record_of) used-none
    ∙ sym (ap (λ (x : List (List ℕ)). others o (map record_of x)) used-none ∙ b)
others_remain o (s ∷ ss) =
    by-outcome o s
    (λ u h e. ap (λ (x : List (List ℕ)). map record_of (used_ones x)) (deleted_yes o s ss h)
    ∙ ap (map record_of) (used_skip (set s 4 0) (deleted_all o ss) (set-unused s))
    ∙ others_remain o ss
    ∙ sym (ap (λ (x : List (List ℕ)). others o (map record_of x)) (used_keep s ss u)
    ∙ others_skip o (record_of s) (map record_of (used_ones ss)) (outcome-read s ∙ e)))
    (λ u h e. ap (λ (x : List (List ℕ)). map record_of (used_ones x)) (deleted_no o s ss h)
    ∙ ap (map record_of) (used_keep s (deleted_all o ss) u)
    ∙ ap (λ (x : List Record). record_of s ∷ x) (others_remain o ss)
    ∙ sym (ap (λ (x : List (List ℕ)). others o (map record_of x)) (used_keep s ss u)
    ∙ others_keep o (record_of s) (map record_of (used_ones ss)) (ap (λ (i : ℕ). eqb i o) (outcome-read s) ∙ e)))
    (λ u h. ap (λ (x : List (List ℕ)). map record_of (used_ones x)) (deleted_no o s ss h)
    ∙ ap (map record_of) (used_skip s (deleted_all o ss) u)
    ∙ others_remain o ss
    ∙ ap (λ (x : List (List ℕ)). others o (map record_of x)) (sym (used_skip s ss u)))

-- as many are deleted as do not remain
count-rest : (o : ℕ) (ss : List (List ℕ)) → count_of o ss + length (used_ones (deleted_all o ss)) ≡ length (used_ones ss)
count-rest o [] =
    let a : deleted_all o [] ≡ [] = (unfold deleted_all in refl) in
    let b : count_of o [] ≡ 0 = (unfold count_of in refl) in
    let c = ap (λ (x : List (List ℕ)). length (used_ones x)) a in
    omega arith
count-rest o (s ∷ ss) =
    let ih = count-rest o ss in
    by-outcome o s
    (λ u h e. let a = count_yes o s ss h in
    let b : length (used_ones (deleted_all o (s ∷ ss))) ≡ length (used_ones (deleted_all o ss))
    = ap (λ (x : List (List ℕ)). length (used_ones x)) (deleted_yes o s ss h) ∙ ap length (used_skip (set s 4 0) (deleted_all o ss) (set-unused s)) in
    let c : length (used_ones (s ∷ ss)) ≡ suc (length (used_ones ss)) = ap length (used_keep s ss u) in
    omega arith)
    (λ u h e. let a = count_no o s ss h in
    let b : length (used_ones (deleted_all o (s ∷ ss))) ≡ suc (length (used_ones (deleted_all o ss)))
    = ap (λ (x : List (List ℕ)). length (used_ones x)) (deleted_no o s ss h) ∙ ap length (used_keep s (deleted_all o ss) u) in
    let c : length (used_ones (s ∷ ss)) ≡ suc (length (used_ones ss)) = ap length (used_keep s ss u) in
    omega arith)
    (λ u h. let a = count_no o s ss h in
    let b : length (used_ones (deleted_all o (s ∷ ss))) ≡ length (used_ones (deleted_all o ss))
    = ap (λ (x : List (List ℕ)). length (used_ones x)) (deleted_no o s ss h) ∙ ap length (used_skip s (deleted_all o ss) u) in
    let c : length (used_ones (s ∷ ss)) ≡ length (used_ones ss) = ap length (used_skip s ss u) in
    omega arith)

whole_deleted : (o : ℕ) (ss : List (List ℕ)) → Whole ss → Whole (deleted_all o ss)
unfolding Whole
whole_deleted o [] w = let a : [] ≡ deleted_all o [] = (unfold deleted_all in refl) in subst Whole a tt
whole_deleted o (s ∷ ss) w =
    by_test (has_outcome o s)
    (λ h. rw (deleted_yes o s ss h) (length-set s 4 0 ∙ w.0, whole_deleted o ss w.1))
    (λ h. rw (deleted_no o s ss h) (w.0, whole_deleted o ss w.1))

-- the number that it gives
abbrev told : Numbered → ℕ
told x = log_number_refusal x.given

module _ (l : List ℕ) (o : ℕ) where
  outcome_on_bad : bad_log l ≡ true → DeletesAllOrRefuses l o
  outcome_on_bad b =
      let e = outcome_bad l o b in
      let n : told (deleting_all l o) ≡ 11 = ap told e in
      record {
        listed = inr n;
        eleven = both n (bad_mod l b);
        refused = λ _. ap (λ (x : Numbered). x.log) e;
        deletes = λ m. absurd (bad_mod l b m);
        remains = λ m. absurd (bad_mod l b m);
        counts = λ m. absurd (bad_mod l b m);
        nothing = λ _. ap (λ (x : Numbered). x.log) e;
      }

  outcome_on_good : bad_log l ≡ false → DeletesAllOrRefuses l o
  unfolding remaining
  outcome_on_good g =
      let m = good_mod l g in
      let ss = slots l in
      let e = outcome_good l o g in
      let n : told (deleting_all l o) ≡ 0 = ap told e in
      let cut : slots (deleting_all l o).log ≡ deleted_all o ss
      = ap (λ (x : Numbered). slots x.log) e ∙ slots_side (deleted_all o ss) (whole_deleted o ss (whole_slots l m)) in
      let r = others_remain o ss in
      record {
        listed = inl n;
        eleven = not-eleven l g (other 11 n refl);
        refused = λ q. absurd (let z : ⊥ = omega arith in z);
        deletes = λ _. cut;
        remains = λ _. ap (λ (x : List (List ℕ)). map record_of (used_ones x)) cut ∙ r;
        counts = λ _. ap (λ (x : Numbered). log_number_value x.given) e
            ∙ ap some
            (let a = length-map (used_ones ss) record_of in
            let b = length-map (used_ones (deleted_all o ss)) record_of in
            let c = ap length r in
            let d = count-rest o ss in
            let z : count_of o ss ≡ length (map record_of (used_ones ss)) - length (others o (map record_of (used_ones ss))) = omega arith in z);
        nothing = λ z. ap (λ (i : ℕ). (deleting_all l i).log) z
            ∙ ap (λ (x : Numbered). x.log) (outcome_good l 0 g ∙ none-deleted l m);
      }

  pub outcome_refuses : DeletesAllOrRefuses l o
  outcome_refuses = by_test (bad_log l) outcome_on_bad outcome_on_good

-- ---- compaction and counting give 11 alone

pub compact_refuses : (l : List ℕ) → CompactsOrRefuses l
compact_refuses l =
    by_test (bad_log l)
    (λ b. let e = compact_bad l b in
    let n : num (compacting l) ≡ 11 = ap num e in
    record { listed = inr n; eleven = both n (bad_mod l b); refused = λ _. ap log_of e; compacts = λ m. absurd (bad_mod l b m) })
    (λ g. let e = compact_good l g in
    let n : num (compacting l) ≡ 0 = ap num e in
    record {
      listed = inl n;
      eleven = not-eleven l g (other 11 n refl);
      refused = λ q. absurd (let z : ⊥ = omega arith in z);
      compacts = λ _. ap log_of e;
    })

pub count_refuses : (l : List ℕ) → CountsOrRefuses l
unfolding remaining used_count
count_refuses l =
    by_test (bad_log l)
    (λ b. let e = count_bad l b in
    let n : log_number_refusal (used_records l) ≡ 11 = ap log_number_refusal e in
    record { listed = inr n; eleven = both n (bad_mod l b); counts = λ m. absurd (bad_mod l b m) })
    (λ g. let e = count_good l g in
    let n : log_number_refusal (used_records l) ≡ 0 = ap log_number_refusal e in
    record {
      listed = inl n;
      eleven = not-eleven l g (other 11 n refl);
      counts = λ _. ap log_number_value e ∙ ap some (sym (length-map (used_ones (slots l)) record_of));
    })
