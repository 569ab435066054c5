-- Each call on a log, by what is known of log and record. Assumes nothing.
use Prim.Native.Nat.{ℕ, ◌+◌, ◌*◌, ◌/◌, ◌%◌, ◌<◌}
use native.Mathlib.Omega.{arith}
use mathlib.Core.Path.{◌≡◌, refl, sym, ap, ap₂, ◌∙◌}
use mathlib.Core.Bool.{Bool, true, false, not, ◌&&◌, false≢true}
use mathlib.Core.List.{List}
use lib.ListN.{length, set}
use borrow.Author.Tests.{eqb-true, eq-eqb, ne_eqb, not-false}
use Rattle.std.specs.Prelude.{Result, Ok, Err, IsErrAnd}
use Rattle.std.proofs.lemmas.Result.{err_from_is_err_and}
use Rattle.line.specs.Limits.{record_size}
use Rattle.line.specs.Line.{overwrite}
use Rattle.line.specs.Table.{first}
use Rattle.line.proofs.Symbols.{by_test}
use Rattle.line.proofs.Tables.{first-here, first_next, first-other}
use Rattle.reading_log.specs.declared.Record.{Record}
use Rattle.reading_log.specs.declared.LogRefusal.{LogRefusal}
use Rattle.reading_log.specs.declared.LogRefusal.TheVariants.{BadLog, LogFull, NotUsed}
use Rattle.reading_log.specs.Log.{octets_of_record, record_of, is_used, counts, slot_at, slots, all_used, used_count, extent, joined, compacted, bad_log}
use Rattle.reading_log.specs.Log.{append_refusals, record_refusals, log_refusals, logging, roomy, appended, append_checked, appending}
use Rattle.reading_log.specs.Log.{record_checked, record_read, number_checked, used_records}
use Rattle.reading_log.specs.Room.{delete_checked, deleting, deleted_all, count_of, numbered, delete_all_checked, deleting_all, compact_checked, compacting}
use Rattle.reading_log.specs.Claims.{IsMultiple, Used}
use Rattle.reading_log.proofs.Searches.{used-inside}

-- ---- refusal 11

pub bad_log_lem : (l : List ℕ) → (IsMultiple l → ⊥) → bad_log l ≡ true
unfolding bad_log
bad_log_lem l h = ap not (ne_eqb (length l % record_size) 0 h)

pub good_log : (l : List ℕ) → IsMultiple l → bad_log l ≡ false
unfolding bad_log
good_log l h = ap not (eq-eqb (length l % record_size) 0 h)

pub good_mod : (l : List ℕ) → bad_log l ≡ false → IsMultiple l
unfolding bad_log
good_mod l h = eqb-true (length l % record_size) 0 (not-false _ h)

pub bad_mod : (l : List ℕ) → bad_log l ≡ true → IsMultiple l → ⊥
bad_mod l h e = false≢true (sym (good_log l e) ∙ h)

-- what a call gives that `?` leaves where `checked` refuses
pub left_bad : {A : Type 0} (r : Result A LogRefusal) (e : LogRefusal) → IsErrAnd r (λ y. y ≡ e) → e ≡ BadLog → r ≡ Err BadLog
left_bad r e h b = let p = err_from_is_err_and r h in p.1 ∙ ap Err (p.2 ∙ b)

-- ---- room behind the last used record

module _ (l : List ℕ) where
  pub roomy-compacts : extent l ≡ length l / record_size → roomy l ≡ compacted l
  unfolding roomy
  roomy-compacts h = rw (eq-eqb (extent l) (length l / record_size) h, roomy)

  pub roomy_stays : (extent l ≡ length l / record_size → ⊥) → roomy l ≡ l
  unfolding roomy
  roomy_stays h = rw (ne_eqb (extent l) (length l / record_size) h, roomy)

-- ---- appending

module _ (l : List ℕ) (r : Record) where
  -- the test of 12, by its two parts
  full_row : {b d : Bool} → counts r ≡ b → all_used (slots l) ≡ d → (counts r && all_used (slots l)) ≡ (b && d)
  full_row c u = ap₂ ◌&&◌ c u

  pub append_bad : bad_log l ≡ true → appending l r ≡ logging (Err BadLog) l
  unfolding appending append_refusals append_checked
  append_bad h = ap (λ (x : _). append_checked x l r) (first-here (Err BadLog) _ h)

  pub append-none : bad_log l ≡ false → counts r ≡ false → appending l r ≡ logging (Ok tt) l
  unfolding appending append_refusals append_checked appended
  append-none h c =
      ap (λ (x : _). append_checked x l r) (first_next (Err BadLog) _ h ∙ first_next (Err LogFull) _ (full_row c refl) ∙ first-other (Ok tt))
      ∙ rw (c, appended)

  pub append-full : bad_log l ≡ false → counts r ≡ true → all_used (slots l) ≡ true → appending l r ≡ logging (Err LogFull) l
  unfolding appending append_refusals append_checked
  append-full h c u = ap (λ (x : _). append_checked x l r) (first_next (Err BadLog) _ h ∙ first-here (Err LogFull) _ (full_row c u))

  pub append-room : bad_log l ≡ false → counts r ≡ true → all_used (slots l) ≡ false
      → appending l r ≡ logging (Ok tt) (overwrite (roomy l) (record_size * extent (roomy l)) (octets_of_record r))
  unfolding appending append_refusals append_checked appended
  append-room h c u =
      ap (λ (x : _). append_checked x l r) (first_next (Err BadLog) _ h ∙ first_next (Err LogFull) _ (full_row c u) ∙ first-other (Ok tt))
      ∙ rw (c, appended)

-- ---- the record of a stated number

module _ (l : List ℕ) (k : ℕ) where
  pub read_bad : bad_log l ≡ true → record_read l k ≡ Err BadLog
  unfolding record_read record_refusals record_checked
  read_bad h = ap (λ (x : _). record_checked x l k) (first-here (Err BadLog) _ h)

  pub read-unused : bad_log l ≡ false → is_used (slot_at l k) ≡ false → record_read l k ≡ Err NotUsed
  unfolding record_read record_refusals record_checked
  read-unused h u = ap (λ (x : _). record_checked x l k) (first_next (Err BadLog) _ h ∙ first-here (Err NotUsed) _ (ap not u))

  pub read-used : bad_log l ≡ false → Used l k → record_read l k ≡ Ok (record_of (slot_at l k))
  unfolding record_read record_refusals record_checked
  read-used h u =
      ap (λ (x : _). record_checked x l k) (first_next (Err BadLog) _ h ∙ first_next (Err NotUsed) _ (ap not u) ∙ first-other (Ok tt))

-- a record that is read stands inside the log
pub read-inside : (l : List ℕ) (k : ℕ) (r : Record) → record_read l k ≡ Ok r → record_size * k < length l
read-inside l k r h =
    by_test (bad_log l) (λ b. let z : Err BadLog ≡ Ok r = sym (read_bad l k b) ∙ h in let z' : ◌≡◌ {A = ℕ} 0 1 = cc in omega arith)
    (λ b. by_test (is_used (slot_at l k)) (λ u. used-inside l k u)
    (λ u. let z : Err NotUsed ≡ Ok r = sym (read-unused l k b u) ∙ h in let z' : ◌≡◌ {A = ℕ} 0 1 = cc in omega arith))

-- ---- a record deleted

module _ (l : List ℕ) (k : ℕ) where
  pub delete_bad : bad_log l ≡ true → deleting l k ≡ logging (Err BadLog) l
  unfolding deleting record_refusals delete_checked
  delete_bad h = ap (λ (x : _). delete_checked x l k) (first-here (Err BadLog) _ h)

  pub delete_unused : bad_log l ≡ false → is_used (slot_at l k) ≡ false → deleting l k ≡ logging (Err NotUsed) l
  unfolding deleting record_refusals delete_checked
  delete_unused h u = ap (λ (x : _). delete_checked x l k) (first_next (Err BadLog) _ h ∙ first-here (Err NotUsed) _ (ap not u))

  pub delete_used : bad_log l ≡ false → Used l k → deleting l k ≡ logging (Ok tt) (set l (record_size * k + 4) 0)
  unfolding deleting record_refusals delete_checked
  delete_used h u =
      ap (λ (x : _). delete_checked x l k) (first_next (Err BadLog) _ h ∙ first_next (Err NotUsed) _ (ap not u) ∙ first-other (Ok tt))

-- ---- the calls on all records

module _ (l : List ℕ) where
  log_bad : bad_log l ≡ true → first (log_refusals l) ≡ Err BadLog
  unfolding log_refusals
  log_bad h = first-here (Err BadLog) _ h

  log_good : bad_log l ≡ false → first (log_refusals l) ≡ Ok tt
  unfolding log_refusals
  log_good h = first_next (Err BadLog) _ h ∙ first-other (Ok tt)

  pub outcome_bad : (o : ℕ) → bad_log l ≡ true → deleting_all l o ≡ numbered (Err BadLog) l
  unfolding deleting_all delete_all_checked
  outcome_bad o h = ap (λ (x : _). delete_all_checked x l o) (log_bad h)

  pub outcome_good : (o : ℕ) → bad_log l ≡ false → deleting_all l o ≡ numbered (Ok (count_of o (slots l))) (joined (deleted_all o (slots l)))
  unfolding deleting_all delete_all_checked
  outcome_good o h = ap (λ (x : _). delete_all_checked x l o) (log_good h)

  pub compact_bad : bad_log l ≡ true → compacting l ≡ logging (Err BadLog) l
  unfolding compacting compact_checked
  compact_bad h = ap (λ (x : _). compact_checked x l) (log_bad h)

  pub compact_good : bad_log l ≡ false → compacting l ≡ logging (Ok tt) (compacted l)
  unfolding compacting compact_checked
  compact_good h = ap (λ (x : _). compact_checked x l) (log_good h)

  pub count_bad : bad_log l ≡ true → used_records l ≡ Err BadLog
  unfolding used_records number_checked
  count_bad h = ap (λ (x : _). number_checked x (used_count l)) (log_bad h)

  pub count_good : bad_log l ≡ false → used_records l ≡ Ok (used_count l)
  unfolding used_records number_checked
  count_good h = ap (λ (x : _). number_checked x (used_count l)) (log_good h)
