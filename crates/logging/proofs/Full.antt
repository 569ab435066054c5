-- A walk that keeps its readings and finds the log full, as a theorem: `full-goes_on`. Assumes nothing.
use Rattle.std.specs.Prelude.{Result, Ok, Err}
use Rattle.logging.specs.Walks.{KeepChecked}
use Prim.Native.Nat.{ℕ, zero, suc, ◌+◌, ◌-◌, ◌<◌}
use native.Mathlib.Omega.{arith}
use mathlib.Core.Path.{◌≡◌, refl, sym, ap, ◌∙◌, subst}
use mathlib.Core.Bool.{true}
use mathlib.Core.List.{List, [], ◌∷◌, ◌++◌}
use lib.ListN.{length}
use Rattle.line.specs.Table.{first}
use Rattle.station.specs.declared.Settings.{Settings}
use Rattle.station.specs.declared.State.{State}
use Rattle.table.specs.declared.Entry.{Entry}
use Rattle.reading_log.specs.declared.LogRefusal.{LogRefusal}
use Rattle.reading_log.specs.declared.LogRefusal.TheVariants.{BadLog, LogFull, NotUsed}
use Rattle.reading_log.specs.Numbers.{log_refusal_number, logged_refusal}
use Rattle.reading_log.specs.Log.{appending}
use Rattle.reading_log.specs.Claims.{append_all}
use Rattle.receive.specs.declared.Answer.{Answer}
use Rattle.receive.specs.declared.Answer.TheVariants.{Counted}
use Rattle.receive.specs.declared.Reading.{Reading}
use Rattle.receive.specs.Values.{is_counted}
use Rattle.receive.specs.Reading.{reading}
use Rattle.receive.specs.Walk.{readings_from}
use Rattle.logging.specs.declared.KeepRefusal.TheVariants.{ByReading}
use Rattle.logging.specs.declared.LogEnd.{LogEnd}
use Rattle.logging.specs.declared.LogEnd.TheVariants.{Nothing, Open, Full}
use Rattle.logging.specs.Records.{record_of_reading}
use Rattle.logging.specs.Walks.{Keeping, stopped, keep_from, keep_refusals, walk_logged}
use Rattle.logging.specs.Claims.{AllCounted, StopsFull}
use Rattle.logging.proofs.Claims.{readings_on}
use Rattle.logging.proofs.Turns.{turn_refused, turn_none, turn_open, by-appending, walk_refused, walk_fine}

-- ---- the other ends are not `Full`

unfoldable pub is_full : LogEnd → ℕ
is_full (LogEnd.Refused x) = 0
is_full Nothing = 0
is_full Open = 0
is_full Full = 1

pub other-end : (e : LogEnd) (k : Keeping) → is_full e ≡ 0 → k.given.end ≡ e → k.given.end ≡ Full → ⊥
unfolding is_full
other-end e k h g f = let z : ◌≡◌ {A = ℕ} 0 1 = sym h ∙ ap is_full (sym g ∙ f) in omega arith

some-refusal : (x : LogRefusal) → 0 < log_refusal_number x
some-refusal BadLog = omega arith
some-refusal LogFull = omega arith
some-refusal NotUsed = omega arith

-- ---- one turn

module _ (s : Settings) (job : ℕ) (es : List Entry) (os ms : List ℕ) where
  abbrev Stops : ℕ → State → ℕ → Type 0
  Stops most st p =
      (n : ℕ) (l : List ℕ) → (keep_from most s job es st os ms p n l).given.end ≡ Full
      → StopsFull most s job es st os ms p n l (keep_from most s job es st os ms p n l)

  module _ (most : ℕ) (st : State) (p : ℕ) where
    abbrev r : Reading
    r = reading s job es st os ms p

    -- no record is unused: nothing was made
    stops_here : (n : ℕ) (l : List ℕ) → is_counted r.answer ≡ true → (x : LogRefusal) → (appending l (record_of_reading r)).given ≡ Err x
        → StopsFull (suc most) s job es st os ms p n l (stopped Full st p n l)
    unfolding AllCounted append_all
    stops_here n l is x e =
        let less : suc most - 0 ≡ suc most = omega arith in
        let none : n ≡ n + 0 = omega arith in
        let some = some-refusal x in
        record {
          made = [];
          counted = tt;
          kept = none;
          log = refl;
          further = ap (λ (m : ℕ). readings_from m s job es st os ms p) (sym less);
          next = is;
          full = subst (λ (g : Result (Unit {0}) LogRefusal). 0 < logged_refusal g) (sym e) some;
        }

    -- the reading is kept, and the rest stops so
    stops_later : (n : ℕ) (l : List ℕ) (k : Keeping) → is_counted r.answer ≡ true
        → StopsFull most s job es r.state os ms r.next (n + 1) (appending l (record_of_reading r)).log k → StopsFull (suc most) s job es st os ms p n l k
    unfolding AllCounted append_all
    stops_later n l k is t =
        let less : most - length t.made ≡ suc most - suc (length t.made) = omega arith in
        let one : n + 1 + length t.made ≡ n + suc (length t.made) = omega arith in
        record {
          made = r ∷ t.made;
          counted = (is, t.counted);
          kept = t.kept ∙ one;
          log = t.log;
          further = readings_on most s job es st os ms p is
              ∙ ap (λ (x : List Reading). r ∷ x)
              (t.further ∙ ap (λ (m : ℕ). t.made ++ readings_from m s job es k.given.state os ms k.given.next) less);
          next = t.next;
          full = t.full;
        }

    -- a turn that does not stop so
    not_full : (n : ℕ) (l : List ℕ) (e : LogEnd) → is_full e ≡ 0 → (keep_from (suc most) s job es st os ms p n l).given.end ≡ e
        → (keep_from (suc most) s job es st os ms p n l).given.end ≡ Full
        → StopsFull (suc most) s job es st os ms p n l (keep_from (suc most) s job es st os ms p n l)
    not_full n l e h g f = absurd (other-end e (keep_from (suc most) s job es st os ms p n l) h g f)

    stops_turn : Stops most r.state r.next → (a : Answer) → r.answer ≡ a → Stops (suc most) st p
    unfolding is_full
    stops_turn ih (Answer.Refused x) e n l =
        not_full n l (LogEnd.Refused (ByReading x)) refl
        (ap (λ (k : Keeping). k.given.end) (turn_refused s job es st os ms p n l (suc most) (omega arith) r refl x e))
    stops_turn ih Answer.Nothing e n l =
        not_full n l Nothing refl (ap (λ (k : Keeping). k.given.end) (turn_none s job es st os ms p n l (suc most) (omega arith) r refl e))
    stops_turn ih Answer.Open e n l =
        not_full n l Open refl (ap (λ (k : Keeping). k.given.end) (turn_open s job es st os ms p n l (suc most) (omega arith) r refl e))
    stops_turn ih (Counted o w q v) e n l =
        let is : is_counted r.answer ≡ true = ap is_counted e in
        let less : suc most - 1 ≡ most = omega arith in
        let m = (appending l (record_of_reading r)).log in
        by-appending s job es st os ms p n l (suc most) (omega arith) r refl o w q v e
        (λ k. k.given.end ≡ Full → StopsFull (suc most) s job es st os ms p n l k)
        (subst (λ (i : ℕ). let k : Keeping = keep_from i s job es r.state os ms r.next (n + 1) m in
        k.given.end ≡ Full → StopsFull (suc most) s job es st os ms p n l k)
        (sym less)
        (λ f. stops_later n l (keep_from most s job es r.state os ms r.next (n + 1) m) is (ih (n + 1) m f)))
        (λ x g _. stops_here n l is x g)

  stops_from : (most : ℕ) (st : State) (p : ℕ) → Stops most st p
  unfolding keep_from is_full
  stops_from zero st p = λ n l f. absurd (other-end Nothing (stopped Nothing st p n l) refl refl f)
  stops_from (suc most) st p = let r = reading s job es st os ms p in stops_turn most st p (stops_from most r.state r.next) r.answer refl

-- ---- the claim

-- a walk that is told full: it made and kept so many readings, and goes on from its state and next place as if it had not stopped
pub full-goes_on : (s : Settings) (job : ℕ) (es : List Entry) (st : State) (os ms : List ℕ) (p : ℕ) (l : List ℕ)
    → (walk_logged s job es st os ms p l).given.end ≡ Full
    → StopsFull (length os + 1) s job es st os ms p 0 l (walk_logged s job es st os ms p l)
full-goes_on s job es st os ms p l f = by_checked (first (keep_refusals s job es os ms p l)) refl
  where
    by_checked : (c : KeepChecked) → first (keep_refusals s job es os ms p l) ≡ c
        → StopsFull (length os + 1) s job es st os ms p 0 l (walk_logged s job es st os ms p l)
    by_checked (Err x) e =
        absurd (other-end (LogEnd.Refused x) (walk_logged s job es st os ms p l) (unfold is_full in refl)
        (ap (λ (k : Keeping). k.given.end) (walk_refused s job es st os ms p l x e)) f)
    by_checked (Ok _) e =
        let h = walk_fine s job es st os ms p l e in
        subst (StopsFull (length os + 1) s job es st os ms p 0 l) (sym h)
        (stops_from s job es os ms (length os + 1) st p 0 l (sym (ap (λ (k : Keeping). k.given.end) h) ∙ f))
