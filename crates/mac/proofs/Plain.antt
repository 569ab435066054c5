-- Claim 2, demand 1, of the plain reader (document 02, item 12): a symbol, in any state, is refused by exactly 1, 14, 20 and 2, the first that holds, and
-- refused it leaves the state: `symbol_refuses`. Assumes nothing.
use Rattle.std.specs.Prelude.{Err, Ok, Option}
use Rattle.station.specs.Numbers.{Checked}
use Prim.Native.Nat.{ℕ, ◌<◌}
use native.Mathlib.Omega.{arith}
use mathlib.Core.Path.{◌≡◌, refl}
use mathlib.Core.Bool.{Bool, true, false, cond}
use mathlib.Core.List.{List, [], ◌∷◌}
use Rattle.line.specs.Line.{Symbol, is_data}
use Rattle.line.specs.Table.{first}
use Rattle.station.specs.declared.Address.{Address}
use Rattle.station.specs.declared.Settings.{Settings}
use Rattle.station.specs.Numbers.{checked_number}
use Rattle.table.specs.declared.Entry.{Entry}
use Rattle.table.specs.Entries.{mine}
use Rattle.kept.specs.declared.Told.{Told}
use Rattle.kept.specs.declared.Told.TheVariants.{Quiet}
use Rattle.kept.specs.Kept.{kept_outcome, kept_told, symbol_refusals}
use Rattle.kept.specs.Values.{told_refusal}
use Rattle.plain.specs.declared.Plain.{Plain}
use Rattle.plain.specs.declared.Step.{Step}
use Rattle.plain.specs.Plain.{after_data, after_control, step_checked, step}
use Rattle.mac.specs.Demand1.{numbers_of}
use Rattle.mac.specs.Plain.{StepsOrRefuses}
use Rattle.mac.proofs.Demand1.{is_in, repeats, Listed, exactly}

-- where nothing refuses, no refusal is told
either : (b : Bool) (k k' : Step) → told_refusal k.told ≡ 0 → told_refusal k'.told ≡ 0 → told_refusal (cond b k k').told ≡ 0
either true k k' h h' = h
either false k k' h h' = h'

counted-or_quiet : (b : Bool) (t : Told) → told_refusal t ≡ 0 → told_refusal (cond b t Quiet) ≡ 0
counted-or_quiet true t h = h
counted-or_quiet false t h = refl

module _ (s : Settings) (own : List (Option Address)) (p : Plain) (y : Symbol) where
  step-number : (k : Checked) → told_refusal (step_checked k s own p y).told ≡ checked_number k
  unfolding step_checked after_data after_control kept_told
  step-number (Err x) = refl
  step-number (Ok _) =
      either (is_data y) (after_data p y.octet) (after_control s own p y.octet) refl
      (counted-or_quiet p.running (kept_told s own (kept_outcome s own p.run y.octet) p.run) refl)

  step_kept : (k : Checked) → 0 < checked_number k → (step_checked k s own p y).plain ≡ p
  unfolding step_checked
  step_kept (Err x) h = refl
  step_kept (Ok _) h = absurd (omega arith)

module _ (s : Settings) (job : ℕ) (es : List Entry) (p : Plain) (y : Symbol) where
  -- "Refusals: 1, 14, 20 as in reading, then 2"
  symbol_listed : Listed (symbol_refusals s job es p.place) (1 ∷ 14 ∷ 20 ∷ 2 ∷ [])
  unfolding symbol_refusals numbers_of repeats is_in
  symbol_listed = (refl, refl)

  pub symbol_refuses : StepsOrRefuses (symbol_refusals s job es p.place) (1 ∷ 14 ∷ 20 ∷ 2 ∷ []) p (step s job es p y)
  unfolding step
  symbol_refuses =
      let k : Checked = first (symbol_refusals s job es p.place) in
      let n = step-number s (mine job es) p y k in
      record {
        exactly = exactly symbol_listed n;
        refused = λ h. step_kept s (mine job es) p y k (omega arith);
      }
