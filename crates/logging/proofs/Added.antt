-- A walk that keeps its readings in any log, as a theorem: `walk-adds`. Assumes nothing.
use Prim.Native.Nat.{ℕ, zero, suc, ◌+◌, ◌-◌, ◌≤◌}
use native.Mathlib.Omega.{arith}
use mathlib.Core.Path.{◌≡◌, refl, sym, ap, ap₂, ◌∙◌}
use mathlib.Core.Bool.{true, false, false≢true}
use mathlib.Core.List.{List, [], ◌∷◌, ◌++◌, append_assoc, append-nil}
use lib.ListN.{length, take}
use lib.Seq.{take-nil}
use Rattle.line.specs.Limits.{table_entries}
use Rattle.line.proofs.Symbols.{by_test}
use Rattle.station.specs.declared.Settings.{Settings}
use Rattle.station.specs.declared.State.{State}
use Rattle.table.specs.declared.Entry.{Entry}
use Rattle.reading_log.specs.declared.Record.{Record}
use Rattle.reading_log.specs.Log.{slots, all_used, remaining, extent, roomy, Logging, appending}
use Rattle.reading_log.specs.Claims.{Fits, IsMultiple, unused_count}
use Rattle.reading_log.proofs.Searches.{every_used, used_every}
use Rattle.reading_log.proofs.Filled.{full-room, some-room, append-roomy, length-appended}
use Rattle.reading_log.proofs.Remaining.{append-adds, unused-appended, unused-none}
use Rattle.receive.specs.declared.Answer.{Answer}
use Rattle.receive.specs.declared.Answer.TheVariants.{Counted}
use Rattle.receive.specs.declared.Reading.{Reading}
use Rattle.receive.specs.Values.{is_counted}
use Rattle.receive.specs.Reading.{reading}
use Rattle.receive.specs.Walk.{readings_from}
use Rattle.logging.specs.declared.KeepRefusal.TheVariants.{ByReading}
use Rattle.logging.specs.declared.LogEnd.{LogEnd}
use Rattle.logging.specs.declared.LogEnd.TheVariants.{Nothing, Open, Full}
use Rattle.logging.specs.Records.{record_of_reading}
use Rattle.logging.specs.Walks.{Keeping, stopped, keep_from, walk_logged}
use Rattle.logging.specs.Claims.{records_of, Adds}
use Rattle.logging.proofs.Turns.{counted-some, turn_refused, turn_none, turn_open, turn_full, turn_kept}
use Rattle.logging.proofs.Claims.{records-counted, records-last, records-none, readings_stop, readings_on, counted_fits, from_first}
use Rattle.logging.proofs.Full.{is_full, other-end}

-- ---- what a turn adds

-- nothing is to be kept
adds_none : (e : LogEnd) (st : State) (next n : ℕ) (l : List ℕ) → is_full e ≡ 0 → Adds l n (stopped e st next n l) []
adds_none e st next n l h =
    let t : take {A = Record} (unused_count l) [] ≡ [] = take-nil (unused_count l) in
    let no : e ≡ Full → ⊥ = other-end e (stopped e st next n l) h refl in
    record {
      remains = sym (ap (λ (x : List Record). remaining l ++ x) t ∙ append-nil (remaining l));
      kept = let z = ap length t in omega arith;
      full = ((λ f. absurd (no f)), (λ lt. absurd (let z : ⊥ = omega arith in z)));
      used = λ f. absurd (no f);
    }

-- every record is used
adds-full : (st : State) (next n : ℕ) (l : List ℕ) (x : Record) (rs : List Record) → all_used (slots l) ≡ true
    → Adds l n (stopped Full st next n l) (x ∷ rs)
adds-full st next n l x rs u =
    let z = unused-none l u in
    let t : take (unused_count l) (x ∷ rs) ≡ [] = ap (λ (k : ℕ). take k (x ∷ rs)) z in
    record {
      remains = sym (ap (λ (y : List Record). remaining l ++ y) t ∙ append-nil (remaining l));
      kept = let q = ap length t in omega arith;
      full = ((λ _. omega arith), (λ _. refl));
      used = λ _. every_used l u;
    }

-- one record is appended, and the rest adds to that log
adds_on : (n : ℕ) (l m : List ℕ) (k : Keeping) (x : Record) (rs : List Record) → remaining m ≡ remaining l ++ (x ∷ []) → unused_count l ≡ suc (unused_count m)
    → Adds m (n + 1) k rs
    → Adds l n k (x ∷ rs)
adds_on n l m k x rs more one a =
    let t : x ∷ take (unused_count m) rs ≡ take (unused_count l) (x ∷ rs) = ap (λ (i : ℕ). take i (x ∷ rs)) (sym one) in
    let f = a.full in
    record {
      remains = a.remains
          ∙ ap (λ (y : List Record). y ++ take (unused_count m) rs) more
          ∙ append_assoc (remaining l) (x ∷ []) (take (unused_count m) rs)
          ∙ ap (λ (y : List Record). remaining l ++ y) t;
      kept = a.kept ∙ (let q = ap length t in omega arith);
      full = ((λ e. let q = f.0 e in omega arith), (λ lt. f.1 (omega arith)));
      used = a.used;
    }

-- ---- reading after reading

module _ (s : Settings) (job : ℕ) (es : List Entry) (few : length es ≤ table_entries) (os ms : List ℕ) where
  abbrev Added : ℕ → State → ℕ → Type 0
  Added most st p =
      (n : ℕ) (l : List ℕ) → IsMultiple l → Adds l n (keep_from most s job es st os ms p n l) (records_of (readings_from most s job es st os ms p))

  module _ (most : ℕ) (st : State) (p : ℕ) where
    abbrev r : Reading
    r = reading s job es st os ms p

    abbrev rest : List Reading
    rest = readings_from most s job es r.state os ms r.next

    -- a reading that counts no Start is the last
    adds-last : (e : LogEnd) (n : ℕ) (l : List ℕ) → is_full e ≡ 0 → is_counted r.answer ≡ false
        → keep_from (suc most) s job es st os ms p n l ≡ stopped e r.state r.next n l
        → Adds l n (keep_from (suc most) s job es st os ms p n l) (records_of (readings_from (suc most) s job es st os ms p))
    adds-last e n l h last is =
        let none : records_of (readings_from (suc most) s job es st os ms p) ≡ []
        = ap records_of (readings_stop most s job es st os ms p last) ∙ records-last r last in
        rw (is, none) (adds_none e r.state r.next n l h)

    adds_turn : Added most r.state r.next → (a : Answer) → r.answer ≡ a → Added (suc most) st p
    unfolding is_full
    adds_turn ih (Answer.Refused x) e n l good =
        adds-last (LogEnd.Refused (ByReading x)) n l refl (ap is_counted e) (turn_refused s job es st os ms p n l (suc most) (omega arith) r refl x e)
    adds_turn ih Answer.Nothing e n l good =
        adds-last Nothing n l refl (ap is_counted e) (turn_none s job es st os ms p n l (suc most) (omega arith) r refl e)
    adds_turn ih Answer.Open e n l good =
        adds-last Open n l refl (ap is_counted e) (turn_open s job es st os ms p n l (suc most) (omega arith) r refl e)
    adds_turn ih (Counted o w q v) e n l good =
        let x = record_of_reading r in
        let has : x.outcome ≡ 0 → ⊥ = counted-some r o w q v e in
        let yes : is_counted r.answer ≡ true = ap is_counted e in
        let fits : Fits x = counted_fits s job es few st os ms p yes in
        let all : records_of (readings_from (suc most) s job es st os ms p) ≡ x ∷ records_of rest
        = ap records_of (readings_on most s job es st os ms p yes) ∙ records-counted r rest o w q v e in
        rw all (by_test (all_used (slots l))
        (λ u. rw (turn_full s job es st os ms p n l (suc most) (omega arith) r refl o w q v e good (full-room l good u).1)
        (adds-full st p n l x (records_of rest) u))
        (λ u. let m : List ℕ = (appending l x).log in
        let k = extent (roomy l) in
        let lt = some-room l good u in
        let size = length-appended l good x has u in
        let is : keep_from (suc most) s job es st os ms p n l ≡ keep_from most s job es r.state os ms r.next (n + 1) m
        = turn_kept s job es st os ms p n l (suc most) (omega arith) r refl o w q v e good k refl lt
        ∙ ap₂ (λ (i : ℕ) (y : List ℕ). keep_from i s job es r.state os ms r.next (n + 1) y) (let z : suc most - 1 ≡ most = omega arith in z)
        (sym (ap (λ (y : Logging). y.log) (append-roomy l good x has k refl lt))) in
        rw is
        (adds_on n l m _ x (records_of rest) (append-adds l x good fits has (λ every. false≢true (sym u ∙ used_every l every)))
        (unused-appended l x good fits has u) (ih (n + 1) m (let z : IsMultiple m = omega arith in z)))))

  adds-from : (most : ℕ) (st : State) (p : ℕ) → Added most st p
  unfolding keep_from readings_from is_full
  adds-from zero st p = λ n l good. rw records-none (adds_none Nothing st p n l refl)
  adds-from (suc most) st p = let r = reading s job es st os ms p in adds_turn most st p (adds-from most r.state r.next) r.answer refl

-- ---- the claim

-- from any place on and with any log whose length is a multiple of 16, and a table of 16 entries: the records of the walk's counted readings are added,
-- in their order, to those that remain
pub walk-adds : (s : Settings) (job : ℕ) (es : List Entry) → length es ≤ table_entries → (st : State) (os ms : List ℕ) (p : ℕ) (l : List ℕ) → IsMultiple l
    → Adds l 0 (walk_logged s job es st os ms p l) (records_of (readings_from (length os + 1) s job es st os ms p))
walk-adds s job es few st os ms p l good =
    rw (from_first s job es st os ms p l good) (adds-from s job es few os ms (length os + 1) st p 0 l good)
