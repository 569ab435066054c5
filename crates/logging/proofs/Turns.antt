-- One turn of a walk that keeps its readings, by what the reading answers and whether the log has room. Assumes nothing.
use Rattle.std.specs.Prelude.{Result, Ok, Err}
use Rattle.logging.specs.Walks.{KeepChecked}
use Prim.Native.Nat.{ℕ, suc, ◌+◌, ◌-◌, ◌*◌, ◌/◌, ◌<◌}
use native.Mathlib.Omega.{arith}
use mathlib.Core.Path.{◌≡◌, refl, sym, ap, ◌∙◌, subst}
use mathlib.Core.List.{List}
use lib.ListN.{length}
use Rattle.line.specs.Limits.{record_size}
use Rattle.line.specs.Line.{overwrite}
use Rattle.line.specs.Table.{first}
use Rattle.station.specs.declared.Settings.{Settings}
use Rattle.station.specs.declared.State.{State}
use Rattle.station.specs.declared.Part.{Part}
use Rattle.station.specs.declared.Outcome.{Outcome}
use Rattle.station.specs.declared.Outcome.TheVariants.{Cut, BadPreamble, Undersized, Oversized, WrongFcs, WrongLength, Filtered}
use Rattle.station.specs.declared.Outcome.TheVariants.{PauseTaken, PfcTaken, ControlDropped, HandedOut}
use Rattle.station.specs.declared.Refusal.{Refusal}
use Rattle.station.specs.Numbers.{outcome_number}
use Rattle.table.specs.declared.Entry.{Entry}
use Rattle.reading_log.specs.declared.LogRefusal.{LogRefusal}
use Rattle.reading_log.specs.Log.{octets_of_record, extent, roomy, Logging, appending}
use Rattle.reading_log.specs.Claims.{IsMultiple}
use Rattle.reading_log.proofs.Records.{counts_so}
use Rattle.reading_log.proofs.Calls.{good_log, append-full}
use Rattle.reading_log.proofs.Filled.{room-full, append-roomy}
use Rattle.receive.specs.declared.Answer.{Answer}
use Rattle.receive.specs.declared.Answer.TheVariants.{Counted}
use Rattle.receive.specs.declared.Reading.{Reading}
use Rattle.receive.specs.Values.{answer_outcome}
use Rattle.receive.specs.Reading.{reading}
use Rattle.logging.specs.declared.KeepRefusal.{KeepRefusal}
use Rattle.logging.specs.declared.KeepRefusal.TheVariants.{ByReading}
use Rattle.logging.specs.declared.LogEnd.{LogEnd}
use Rattle.logging.specs.declared.LogEnd.TheVariants.{Nothing, Open, Full}
use Rattle.logging.specs.Records.{record_of_reading}
use Rattle.logging.specs.Walks.{Keeping, stopped, keep_from, keep_refusals, keep_checked, walk_logged}

-- ---- a counted Start's record

pub number-some : (o : Outcome) → outcome_number o ≡ 0 → ⊥
number-some Cut h = omega arith
number-some BadPreamble h = omega arith
number-some Undersized h = omega arith
number-some Oversized h = omega arith
number-some WrongFcs h = omega arith
number-some WrongLength h = omega arith
number-some Filtered h = omega arith
number-some PauseTaken h = omega arith
number-some PfcTaken h = omega arith
number-some ControlDropped h = omega arith
number-some HandedOut h = omega arith

-- it has an outcome
pub counted-some : (r : Reading) (o : Outcome) (w : ℕ) (q : Part) (v : ℕ) → r.answer ≡ Counted o w q v → (record_of_reading r).outcome ≡ 0 → ⊥
unfolding record_of_reading
counted-some r o w q v e h = number-some o (sym (ap answer_outcome e) ∙ h)

-- ---- one turn

module _ (s : Settings) (job : ℕ) (es : List Entry) (st : State) (os ms : List ℕ) (p n : ℕ) (l : List ℕ) (left : ℕ) where
  -- what follows a reading r, and what follows its appending
  abbrev given : Reading → Logging → Keeping
  given r a =
      elim a.given [
        | Ok _ ↦ keep_from (left - 1) s job es r.state os ms r.next (n + 1) a.log
        | Err x ↦ stopped Full st p n l
      ]

  abbrev follows : Reading → Keeping
  follows r =
      elim r.answer [
        | Answer.Refused x ↦ stopped (LogEnd.Refused (ByReading x)) r.state r.next n l
        | Answer.Nothing ↦ stopped Nothing r.state r.next n l
        | Answer.Open ↦ stopped Open r.state r.next n l
        | Counted o w q v ↦ given r (appending l (record_of_reading r))
      ]

  module _ (more : 0 < left) (r : Reading) (is : r ≡ reading s job es st os ms p) where
    here : keep_from left s job es st os ms p n l ≡ follows r
    unfolding keep_from
    here =
        let e : left ≡ suc (left - 1) = omega arith in
        ap (λ (k : ℕ). keep_from k s job es st os ms p n l) e ∙ ap follows (sym is)

    pub turn_refused : (x : Refusal) → r.answer ≡ Answer.Refused x
        → keep_from left s job es st os ms p n l ≡ stopped (LogEnd.Refused (ByReading x)) r.state r.next n l
    turn_refused x e = here ∙ rw e

    pub turn_none : r.answer ≡ Answer.Nothing → keep_from left s job es st os ms p n l ≡ stopped Nothing r.state r.next n l
    turn_none e = here ∙ rw e

    pub turn_open : r.answer ≡ Answer.Open → keep_from left s job es st os ms p n l ≡ stopped Open r.state r.next n l
    turn_open e = here ∙ rw e

    module _ (o : Outcome) (w : ℕ) (q : Part) (v : ℕ) (e : r.answer ≡ Counted o w q v) where
      counted : keep_from left s job es st os ms p n l ≡ given r (appending l (record_of_reading r))
      counted = here ∙ rw e

      -- what the appending gives decides
      pub by-appending : (P : Keeping → Type 0) → let a : Logging = appending l (record_of_reading r) in
          P (keep_from (left - 1) s job es r.state os ms r.next (n + 1) a.log)
          → ((x : LogRefusal) → a.given ≡ Err x → P (stopped Full st p n l))
          → P (keep_from left s job es st os ms p n l)
      by-appending P on full = subst P (sym counted) (by_logged a.given refl)
        where
          a : Logging
          a = appending l (record_of_reading r)

          branch : Result (Unit {0}) LogRefusal → Keeping
          branch g =
              elim g [ Ok _ ↦ keep_from (left - 1) s job es r.state os ms r.next (n + 1) a.log | Err x ↦ stopped Full st p n l ]

          by_logged : (g : Result (Unit {0}) LogRefusal) → a.given ≡ g → P (branch a.given)
          by_logged (Ok _) e = subst (λ (g : Result (Unit {0}) LogRefusal). P (branch g)) (sym e) on
          by_logged (Err x) e = subst (λ (g : Result (Unit {0}) LogRefusal). P (branch g)) (sym e) (full x e)

      -- there is no room behind the last used record, or a record is written there
      pub turn_full : IsMultiple l → extent (roomy l) ≡ length l / record_size → keep_from left s job es st os ms p n l ≡ stopped Full st p n l
      turn_full good h =
          counted
          ∙ ap (given r)
          (append-full l (record_of_reading r) (good_log l good) (counts_so (record_of_reading r) (counted-some r o w q v e)) (room-full l good h).1)

      pub turn_kept : IsMultiple l → (k : ℕ) → k ≡ extent (roomy l) → k < length l / record_size
          → keep_from left s job es st os ms p n l
          ≡ keep_from (left - 1) s job es r.state os ms r.next (n + 1) (overwrite (roomy l) (record_size * k) (octets_of_record (record_of_reading r)))
      turn_kept good k h lt = counted ∙ ap (given r) (append-roomy l good (record_of_reading r) (counted-some r o w q v e) k h lt)

-- ---- the whole walk

module _ (s : Settings) (job : ℕ) (es : List Entry) (st : State) (os ms : List ℕ) (p : ℕ) (l : List ℕ) where
  pub walk_refused : (x : KeepRefusal) → first (keep_refusals s job es os ms p l) ≡ Err x
      → walk_logged s job es st os ms p l ≡ stopped (LogEnd.Refused x) st p 0 l
  unfolding walk_logged keep_checked
  walk_refused x h = ap (λ (k : KeepChecked). keep_checked k s job es st os ms p l) h

  pub walk_fine : first (keep_refusals s job es os ms p l) ≡ Ok tt → walk_logged s job es st os ms p l ≡ keep_from (length os + 1) s job es st os ms p 0 l
  unfolding walk_logged keep_checked
  walk_fine h = ap (λ (k : KeepChecked). keep_checked k s job es st os ms p l) h
