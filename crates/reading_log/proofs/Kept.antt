-- Compaction and deletion as their loops go, record after record. Assumes nothing.
use Prim.Native.Nat.{ℕ, suc, ◌+◌, ◌-◌, ◌*◌, ◌/◌, ◌≤◌, ◌<◌}
use native.Mathlib.Omega.{arith}
use mathlib.Core.Path.{◌≡◌, refl, sym, ap, ap₂, ◌∙◌}
use mathlib.Core.Bool.{true, false, not, ◌&&◌}
use mathlib.Core.List.{List, [], ◌∷◌, ◌++◌, append_assoc, append-nil}
use lib.ListN.{length, get_or, take, drop, set, replicate, length-drop, drop_of_length-le}
use lib.Seq.{take_all, take-add, take-set-le, take-set-lt, drop-set-lt, drop-set-add, length-take-le}
use lib.Dec.{eqb, lit<}
use borrow.Author.Tests.{eq-eqb, ne_eqb}
use borrow.Rule.Slice.PartMut.{mid_of, put_mid}
use Rattle.std.specs.Prelude.{Ok}
use Rattle.line.specs.Limits.{record_size}
use Rattle.line.specs.Line.{overwrite}
use Rattle.line.proofs.Symbols.{by_test}
use Rattle.line.proofs.Overwrite.{length-overwrite}
use Rattle.reading_log.specs.Log.{is_used, slot_at, slots_in, slots, used_ones, used_count, joined, at_front, compacted}
use Rattle.reading_log.specs.Room.{has_outcome, deleted_all, count_of, numbered}
use Rattle.reading_log.specs.Steps.{moved_log, moved_count}
use Rattle.reading_log.specs.Claims.{IsMultiple, Used}
use Rattle.reading_log.proofs.Used.{used_keep, used_skip}
use Rattle.reading_log.proofs.Searches.{length_slot, slots_on}
use Rattle.reading_log.proofs.Written.{take-over, drop-over, over-same}
use Rattle.reading_log.proofs.Filled.{whole_used, whole_slots, length-joined, joined-slots}

-- ---- one record of a compaction

module _ (l : List ℕ) (k j : ℕ) where
  pub moved_used : Used l k → (moved_log l k j ≡ overwrite l (record_size * j) (slot_at l k)) × (moved_count l k j ≡ j + 1)
  unfolding moved_log moved_count
  moved_used u = (rw (u, moved_log), rw (u, moved_count))

  pub moved_unused : is_used (slot_at l k) ≡ false → (moved_log l k j ≡ l) × (moved_count l k j ≡ j)
  unfolding moved_log moved_count
  moved_unused u = (rw (u, moved_log), rw (u, moved_count))

  -- in its place already
  pub moved_nowhere : Used l k → j ≡ k → record_size * k + record_size ≤ length l → (moved_log l k j ≡ l) × (moved_count l k j ≡ j + 1)
  moved_nowhere u e h =
      let m = moved_used u in
      (m.0 ∙ ap (λ (i : ℕ). overwrite l (record_size * i) (slot_at l k)) e ∙ over-same l k h, m.1)

-- ---- all of them: what is kept already, and what is still to be kept

unfoldable pub kept_from : List ℕ → ℕ → ℕ → ℕ → List ℕ
kept_from l n k j = take (record_size * j) l ++ joined (used_ones (slots_in (n - k) (drop (record_size * k) l)))

pub kept-start : (l : List ℕ) → kept_from l (length l / record_size) 0 0 ≡ joined (used_ones (slots l))
unfolding kept_from slots
kept-start l = ap (λ (n : ℕ). joined (used_ones (slots_in n l))) (let e : length l / record_size - 0 ≡ length l / record_size = omega arith in e)

pub record Kept (l l' : List ℕ) (n k j j' : ℕ) : Type 0 where
  pub low : j' ≤ k + 1
  pub same : length l' ≡ length l
  pub kept : kept_from l' n (k + 1) j' ≡ kept_from l n k j

module _ (l : List ℕ) (n k j : ℕ) (h : k < n) (g : j ≤ k) (i : record_size * n ≤ length l) where
  abbrev s : List ℕ
  s = slot_at l k

  abbrev rest : List (List ℕ)
  rest = slots_in (n - (k + 1)) (drop (record_size * (k + 1)) l)

  turn_used : Used l k → Kept l (overwrite l (record_size * j) s) n k j (j + 1)
  unfolding kept_from joined
  turn_used u =
      let w = length_slot l k (omega arith) in
      record {
        low = omega arith;
        same = length-overwrite l (record_size * j) s (omega arith);
        kept = ap₂ (λ (x y : List ℕ). x ++ joined (used_ones (slots_in (n - (k + 1)) y)))
            (take-over l (record_size * j) s (record_size * (j + 1)) (omega arith) (omega arith))
            (drop-over l (record_size * j) s (record_size * (k + 1)) (omega arith) (omega arith))
            ∙ append_assoc (take (record_size * j) l) s (joined (used_ones rest))
            ∙ ap (λ (x : List (List ℕ)). take (record_size * j) l ++ joined x) (sym (ap used_ones (slots_on n k l h) ∙ used_keep s rest u));
      }

  turn_unused : is_used s ≡ false → Kept l l n k j j
  unfolding kept_from
  turn_unused u =
      record {
        low = omega arith;
        same = refl;
        kept = ap (λ (x : List (List ℕ)). take (record_size * j) l ++ joined x) (sym (ap used_ones (slots_on n k l h) ∙ used_skip s rest u));
      }

  -- a turn of the loop
  pub kept_turn : (l' : List ℕ) (j' : ℕ) → l' ≡ moved_log l k j → j' ≡ moved_count l k j → Kept l l' n k j j'
  kept_turn l' j' e f =
      by_test (is_used s)
      (λ u. let m = moved_used l k j u in rw (e ∙ m.0, f ∙ m.1) (turn_used u))
      (λ u. let m = moved_unused l k j u in rw (e ∙ m.0, f ∙ m.1) (turn_unused u))

-- the end: what stands behind what is kept becomes zero octets
pub kept-end : (l₀ l z : List ℕ) (n j : ℕ) → IsMultiple l₀ → length l ≡ length l₀ → record_size * j ≤ length l
    → kept_from l n n j ≡ joined (used_ones (slots l₀))
    → z ≡ replicate (length (mid_of (record_size * j) (length l - record_size * j) l)) 0
    → (put_mid (record_size * j) (length l - record_size * j) l z ≡ compacted l₀) × (j ≡ used_count l₀)
unfolding kept_from slots_in used_ones joined used_count compacted at_front
kept-end l₀ l z n j good same room kept zeros =
    let us = used_ones (slots l₀) in
    let front : take (record_size * j) l ≡ joined us
    = sym (append-nil (take (record_size * j) l))
    ∙ ap (λ (m : ℕ). take (record_size * j) l ++ joined (used_ones (slots_in m (drop (record_size * n) l)))) (let e : 0 ≡ n - n = omega arith in e)
    ∙ kept in
    let many : length (joined us) ≡ record_size * j = ap length (sym front) ∙ length-take-le (record_size * j) l room in
    let d = length-drop (record_size * j) l in
    let behind : length (mid_of (record_size * j) (length l - record_size * j) l) ≡ length l - record_size * j
    = length-take-le (length l - record_size * j) (drop (record_size * j) l) (omega arith) in
    let none : drop (length l - record_size * j) (drop (record_size * j) l) ≡ []
    = drop_of_length-le (drop (record_size * j) l) {i = length l - record_size * j} (omega arith) in
    let w = length-joined us (whole_used (slots l₀) (whole_slots l₀ good)) in
    let m : j ≡ length us = omega arith in (
      ap₂ (λ (x y : List ℕ). x ++ (z ++ y)) front none
          ∙ ap (λ (x : List ℕ). joined us ++ x) (append-nil z ∙ zeros)
          ∙ ap (λ (i : ℕ). joined us ++ replicate i 0)
          (behind ∙ (let e : length l - record_size * j ≡ record_size * (length l₀ / record_size - length us) = omega arith in e)),
      m,
    )

-- ---- the records of an outcome deleted

module _ (o : ℕ) (s : List ℕ) (ss : List (List ℕ)) where
  pub deleted_yes : has_outcome o s ≡ true → deleted_all o (s ∷ ss) ≡ set s 4 0 ∷ deleted_all o ss
  unfolding deleted_all
  deleted_yes h = rw (h, deleted_all)

  pub deleted_no : has_outcome o s ≡ false → deleted_all o (s ∷ ss) ≡ s ∷ deleted_all o ss
  unfolding deleted_all
  deleted_no h = rw (h, deleted_all)

  pub count_yes : has_outcome o s ≡ true → count_of o (s ∷ ss) ≡ suc (count_of o ss)
  unfolding count_of
  count_yes h = rw (h, count_of) (let e : 1 + count_of o ss ≡ suc (count_of o ss) = omega arith in e)

  pub count_no : has_outcome o s ≡ false → count_of o (s ∷ ss) ≡ count_of o ss
  unfolding count_of
  count_no h = rw (h, count_of)

-- of an outcome other than 0 the octet alone decides
pub octet-outcome : (o : ℕ) (s : List ℕ) → (o ≡ 0 → ⊥) → get_or s 4 0 ≡ o → has_outcome o s ≡ true
unfolding has_outcome is_used
octet-outcome o s h e = ap₂ ◌&&◌ (ap not (ne_eqb (get_or s 4 0) 0 (λ z. h (sym e ∙ z)))) (eq-eqb (get_or s 4 0) o e)

pub octet-other : (o : ℕ) (s : List ℕ) → (get_or s 4 0 ≡ o → ⊥) → has_outcome o s ≡ false
unfolding has_outcome
octet-other o s h = by_test (is_used s) (λ u. ap₂ ◌&&◌ u (ne_eqb (get_or s 4 0) o h)) (λ u. ap (λ (b : _). b && eqb (get_or s 4 0) o) u)

-- no used record has outcome 0
pub zero-other : (s : List ℕ) → has_outcome 0 s ≡ false
unfolding has_outcome is_used
zero-other s = by_test (eqb (get_or s 4 0) 0) (λ t. rw t) (λ t. rw t)

-- what stands before record k, and what is still to be looked at
unfoldable pub left_from : ℕ → List ℕ → ℕ → ℕ → List ℕ
left_from o l n k = take (record_size * k) l ++ joined (deleted_all o (slots_in (n - k) (drop (record_size * k) l)))

unfoldable pub count_from : ℕ → List ℕ → ℕ → ℕ → ℕ
count_from o l n k = count_of o (slots_in (n - k) (drop (record_size * k) l))

module _ (o : ℕ) (l : List ℕ) where
  pub left-start : left_from o l (length l / record_size) 0 ≡ joined (deleted_all o (slots l))
  unfolding left_from slots
  left-start = ap (λ (n : ℕ). joined (deleted_all o (slots_in n l))) (let e : length l / record_size - 0 ≡ length l / record_size = omega arith in e)

  pub count-start : count_from o l (length l / record_size) 0 ≡ count_of o (slots l)
  unfolding count_from slots
  count-start = ap (λ (n : ℕ). count_of o (slots_in n l)) (let e : length l / record_size - 0 ≡ length l / record_size = omega arith in e)

  module _ (n k : ℕ) (h : k < n) where
    abbrev here : List ℕ
    here = slot_at l k

    abbrev behind : List (List ℕ)
    behind = slots_in (n - (k + 1)) (drop (record_size * (k + 1)) l)

    -- a record of another outcome
    pub left_other : has_outcome o here ≡ false → (left_from o l n (k + 1) ≡ left_from o l n k) × (count_from o l n (k + 1) ≡ count_from o l n k)
    unfolding left_from count_from joined slot_at
    left_other d = (
      ap (λ (x : List ℕ). x ++ joined (deleted_all o behind))
          (ap (λ (i : ℕ). take i l) (let e : record_size * (k + 1) ≡ record_size * k + record_size = omega arith in e)
          ∙ take-add (record_size * k) record_size l)
          ∙ append_assoc (take (record_size * k) l) here (joined (deleted_all o behind))
          ∙ ap (λ (x : List (List ℕ)). take (record_size * k) l ++ joined x) (sym (ap (deleted_all o) (slots_on n k l h) ∙ deleted_no o here behind d)),
      sym (ap (count_of o) (slots_on n k l h) ∙ count_no o here behind d),
    )

    -- one that is deleted
    pub left-deleted : has_outcome o here ≡ true
        → let m : List ℕ = set l (record_size * k + 4) 0 in
        (left_from o m n (k + 1) ≡ left_from o l n k) × (suc (count_from o m n (k + 1)) ≡ count_from o l n k)
    unfolding left_from count_from joined slot_at
    left-deleted d =
        let m : List ℕ = set l (record_size * k + 4) 0 in
        let b : drop (record_size * (k + 1)) m ≡ drop (record_size * (k + 1)) l = drop-set-lt (record_size * (k + 1)) l (record_size * k + 4) 0 (omega arith) in
        let a : take (record_size * (k + 1)) m ≡ take (record_size * k) l ++ set (take record_size (drop (record_size * k) l)) 4 0
        = ap (λ (i : ℕ). take i m) (let e : record_size * (k + 1) ≡ record_size * k + record_size = omega arith in e)
        ∙ take-add (record_size * k) record_size m
        ∙ ap₂ (λ (x y : List ℕ). x ++ take record_size y) (take-set-le (record_size * k) l (record_size * k + 4) 0 (omega arith))
        (drop-set-add (record_size * k) l 4 0)
        ∙ ap (λ (x : List ℕ). take (record_size * k) l ++ x) (take-set-lt record_size (drop (record_size * k) l) 4 0 (lit< tt)) in (
          ap₂ (λ (x y : List ℕ). x ++ joined (deleted_all o (slots_in (n - (k + 1)) y))) a b
              ∙ append_assoc (take (record_size * k) l) (set here 4 0) (joined (deleted_all o behind))
              ∙ ap (λ (x : List (List ℕ)). take (record_size * k) l ++ joined x) (sym (ap (deleted_all o) (slots_on n k l h) ∙ deleted_yes o here behind d)),
          ap (λ (y : List ℕ). suc (count_of o (slots_in (n - (k + 1)) y))) b ∙ sym (ap (count_of o) (slots_on n k l h) ∙ count_yes o here behind d),
        )

  pub left_end : (n : ℕ) → length l ≤ record_size * n → left_from o l n n ≡ l
  unfolding left_from slots_in deleted_all joined
  left_end n h =
      ap (λ (m : ℕ). take (record_size * n) l ++ joined (deleted_all o (slots_in m (drop (record_size * n) l)))) (let e : n - n ≡ 0 = omega arith in e)
      ∙ append-nil (take (record_size * n) l)
      ∙ take_all (record_size * n) l h

  pub count-end : (n : ℕ) → count_from o l n n ≡ 0
  unfolding count_from slots_in count_of
  count-end n = ap (λ (m : ℕ). count_of o (slots_in m (drop (record_size * n) l))) (let e : n - n ≡ 0 = omega arith in e)

-- outcome 0: none is deleted
zero-kept : (ss : List (List ℕ)) → (count_of 0 ss ≡ 0) × (deleted_all 0 ss ≡ ss)
zero-kept [] = (unfold count_of in refl, unfold deleted_all in refl)
zero-kept (s ∷ ss) =
    let h = zero-kept ss in
    (count_no 0 s ss (zero-other s) ∙ h.0, deleted_no 0 s ss (zero-other s) ∙ ap (λ (x : List (List ℕ)). s ∷ x) h.1)

pub none-deleted : (l : List ℕ) → IsMultiple l → numbered (Ok (count_of 0 (slots l))) (joined (deleted_all 0 (slots l))) ≡ numbered (Ok 0) l
none-deleted l good =
    let h = zero-kept (slots l) in
    ap₂ (λ (d : ℕ) (x : List ℕ). numbered (Ok d) x) h.0 (ap joined h.1 ∙ joined-slots l good)
