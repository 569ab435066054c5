-- The exact refusals of a walk that keeps its readings, as a theorem: `walk_refuses`. Assumes nothing.
use Rattle.std.specs.Prelude.{Err, Ok}
use Rattle.station.specs.Numbers.{Checked}
use Prim.Native.Nat.{ℕ, zero, suc, ◌+◌, ◌-◌, ◌<◌}
use native.Mathlib.Omega.{arith}
use mathlib.Core.Path.{◌≡◌, refl, sym, ap, ◌∙◌, subst}
use mathlib.Core.Bool.{true}
use mathlib.Core.List.{List}
use lib.ListN.{length}
use Rattle.line.specs.Table.{first}
use Rattle.line.proofs.Symbols.{by_test}
use Rattle.station.specs.declared.Settings.{Settings}
use Rattle.station.specs.declared.State.{State}
use Rattle.station.specs.declared.Refusal.{Refusal}
use Rattle.station.specs.declared.Refusal.TheVariants.{BadSettings, BadBuffers, BadPlace, OtherFlow, BadClass, BadType, LongData, NoRoom, Held, ManyTags, BadJob, HoldsTwelve, AllInUse, AlreadyListed, NotListed, HighDeficit, BadTable, WrongTotals, HighTotal}
use Rattle.station.specs.Numbers.{refusal_number}
use Rattle.table.specs.declared.Entry.{Entry}
use Rattle.reading_log.specs.declared.LogRefusal.TheVariants.{BadLog}
use Rattle.reading_log.specs.Log.{bad_log, appending}
use Rattle.reading_log.proofs.Calls.{good_mod, bad_mod}
use Rattle.receive.specs.declared.Answer.{Answer}
use Rattle.receive.specs.declared.Answer.TheVariants.{Counted}
use Rattle.receive.specs.declared.Reading.{Reading}
use Rattle.receive.specs.Values.{is_counted, answer_refusal}
use Rattle.receive.specs.Reading.{read_refusals, reading}
use Rattle.receive.proofs.Cases.{read-refused}
use Rattle.receive.proofs.Refusals.{still_fine}
use Rattle.logging.specs.declared.KeepRefusal.TheVariants.{ByReading, ByLog}
use Rattle.logging.specs.declared.LogEnd.{LogEnd}
use Rattle.logging.specs.Records.{record_of_reading}
use Rattle.logging.specs.Walks.{Keeping, stopped, keep_from, walk_logged}
use Rattle.logging.specs.Claims.{end_refusal, WalksOrRefuses}
use Rattle.logging.proofs.Readings.{reading_sound}
use Rattle.logging.proofs.Refusals.{keep_read, keep_goes, keep_bad}
use Rattle.logging.proofs.Turns.{turn_none, turn_open, by-appending, walk_refused, walk_fine}

-- no refusal of a reading or a sending call has the number 0, nor the 11 of a log
pub number_apart : (x : Refusal) → (0 < refusal_number x) × (refusal_number x ≡ 11 → ⊥)
number_apart BadSettings = (omega arith, λ h. omega arith)
number_apart BadBuffers = (omega arith, λ h. omega arith)
number_apart BadPlace = (omega arith, λ h. omega arith)
number_apart OtherFlow = (omega arith, λ h. omega arith)
number_apart BadClass = (omega arith, λ h. omega arith)
number_apart BadType = (omega arith, λ h. omega arith)
number_apart LongData = (omega arith, λ h. omega arith)
number_apart NoRoom = (omega arith, λ h. omega arith)
number_apart Held = (omega arith, λ h. omega arith)
number_apart ManyTags = (omega arith, λ h. omega arith)
number_apart BadJob = (omega arith, λ h. omega arith)
number_apart HoldsTwelve = (omega arith, λ h. omega arith)
number_apart AllInUse = (omega arith, λ h. omega arith)
number_apart AlreadyListed = (omega arith, λ h. omega arith)
number_apart NotListed = (omega arith, λ h. omega arith)
number_apart HighDeficit = (omega arith, λ h. omega arith)
number_apart BadTable = (omega arith, λ h. omega arith)
number_apart WrongTotals = (omega arith, λ h. omega arith)
number_apart HighTotal = (omega arith, λ h. omega arith)

-- ---- a walk whose first reading is not refused goes on

abbrev Goes : Keeping → Type 0
Goes k = end_refusal k.given.end ≡ 0

module _ (s : Settings) (job : ℕ) (es : List Entry) (os ms : List ℕ) where
  abbrev GoesFrom : ℕ → State → ℕ → Type 0
  GoesFrom most st p = (n : ℕ) (l : List ℕ) → Goes (keep_from most s job es st os ms p n l)

  goes_turn : (most : ℕ) (st : State) (p : ℕ) → first (read_refusals s job es os ms p) ≡ Ok tt
      → (is_counted (reading s job es st os ms p).answer ≡ true → GoesFrom most (reading s job es st os ms p).state (reading s job es st os ms p).next)
      → (a : Answer) → (reading s job es st os ms p).answer ≡ a → GoesFrom (suc most) st p
  goes_turn most st p fine ih (Answer.Refused x) e n l =
      let z : refusal_number x ≡ 0 = sym (ap answer_refusal e) ∙ (reading_sound s job es st os ms p fine).refused in
      let b = (number_apart x).0 in
      absurd (let w : ⊥ = omega arith in w)
  goes_turn most st p fine ih Answer.Nothing e n l =
      ap (λ (k : Keeping). end_refusal k.given.end) (turn_none s job es st os ms p n l (suc most) (omega arith) _ refl e)
  goes_turn most st p fine ih Answer.Open e n l =
      ap (λ (k : Keeping). end_refusal k.given.end) (turn_open s job es st os ms p n l (suc most) (omega arith) _ refl e)
  goes_turn most st p fine ih (Counted o w q v) e n l =
      let r = reading s job es st os ms p in
      let less : suc most - 1 ≡ most = omega arith in
      let m = (appending l (record_of_reading r)).log in
      by-appending s job es st os ms p n l (suc most) (omega arith) r refl o w q v e Goes
      (subst (λ (k : ℕ). Goes (keep_from k s job es r.state os ms r.next (n + 1) m)) (sym less) (ih (ap is_counted e) (n + 1) m)) (λ x _. refl)

  goes-from : (most : ℕ) (st : State) (p : ℕ) → first (read_refusals s job es os ms p) ≡ Ok tt → GoesFrom most st p
  goes-from zero st p fine = λ n l. (unfold keep_from in refl)
  goes-from (suc most) st p fine =
      let r = reading s job es st os ms p in
      goes_turn most st p fine
      (λ h. goes-from most r.state r.next
      (still_fine s job es os ms p r.next fine (let b = (reading_sound s job es st os ms p fine).on h in omega arith)))
      r.answer refl

-- ---- refusals, each exactly when

pub walk_refuses : (s : Settings) (job : ℕ) (es : List Entry) (st : State) (os ms : List ℕ) (p : ℕ) (l : List ℕ) → WalksOrRefuses s job es st os ms p l
walk_refuses s job es st os ms p l = by_checked (first (read_refusals s job es os ms p)) refl
  where
    -- a walk that is refused so
    refused_as : (e : LogEnd) → walk_logged s job es st os ms p l ≡ stopped e st p 0 l
        → walk_logged s job es st os ms p l ≡ stopped (walk_logged s job es st os ms p l).given.end st p 0 l
    refused_as e h = h ∙ ap (λ (x : LogEnd). stopped x st p 0 l) (sym (ap (λ (k : Keeping). k.given.end) h))

    by_checked : (c : Checked) → first (read_refusals s job es os ms p) ≡ c → WalksOrRefuses s job es st os ms p l
    by_checked (Err x) e =
        let h = walk_refused s job es st os ms p l (ByReading x) (keep_read s job es os ms p l x e) in
        let n : end_refusal (walk_logged s job es st os ms p l).given.end ≡ refusal_number x = ap (λ (k : Keeping). end_refusal k.given.end) h in
        let a : answer_refusal (reading s job es st os ms p).answer ≡ refusal_number x
        = ap (λ (r : Reading). answer_refusal r.answer) (read-refused s job es st os ms p x e) in
        let some = number_apart x in
        record {
          reads = λ _. n ∙ sym a;
          eleven = ((λ z. absurd (some.1 (sym n ∙ z))), (λ z. absurd (let b = z.0 in let w : ⊥ = omega arith in w)));
          goes = λ z _. absurd (let w : ⊥ = omega arith in w);
          refused = λ _. refused_as _ h;
        }
    by_checked (Ok _) e =
        let a = (reading_sound s job es st os ms p e).refused in
        by_test (bad_log l)
        (λ b. let h = walk_refused s job es st os ms p l (ByLog BadLog) (keep_bad s job es os ms p l e b) in
        let n : end_refusal (walk_logged s job es st os ms p l).given.end ≡ 11 = ap (λ (k : Keeping). end_refusal k.given.end) h in
        record {
          reads = λ z. absurd (let w : ⊥ = omega arith in w);
          eleven = ((λ _. (a, bad_mod l b)), (λ _. n));
          goes = λ _ g. absurd (bad_mod l b g);
          refused = λ _. refused_as _ h;
        })
        (λ b. let g = good_mod l b in
        let h = walk_fine s job es st os ms p l (keep_goes s job es os ms p l g e) in
        let n : end_refusal (walk_logged s job es st os ms p l).given.end ≡ 0
        = ap (λ (k : Keeping). end_refusal k.given.end) h ∙ goes-from s job es os ms (length os + 1) st p e 0 l in
        record {
          reads = λ z. absurd (let w : ⊥ = omega arith in w);
          eleven = ((λ z. absurd (let w : ⊥ = omega arith in w)), (λ z. absurd (z.1 g)));
          goes = λ _ _. n;
          refused = λ z. absurd (let w : ⊥ = omega arith in w);
        })
