-- What a walk that keeps its readings and is not refused knows of its capture and its log. Assumes nothing.
use Rattle.std.specs.Prelude.{Err, Ok}
use Rattle.station.specs.Numbers.{Checked}
use Rattle.logging.specs.Walks.{KeepChecked}
use Prim.Native.Nat.{ℕ}
use native.Mathlib.Omega.{arith}
use mathlib.Core.Path.{◌≡◌, sym, ap, ◌∙◌}
use mathlib.Core.Bool.{Bool, true, false}
use mathlib.Core.List.{List}
use Rattle.line.specs.Table.{Table, ◌⇒◌, ◌∣◌, first}
use Rattle.line.proofs.Symbols.{by_test}
use Rattle.line.proofs.Tables.{first-here, first_next, first-other}
use Rattle.station.specs.declared.Settings.{Settings}
use Rattle.station.specs.declared.Refusal.{Refusal}
use Rattle.station.proofs.Refusals.{fine_row}
use Rattle.station.specs.declared.Refusal.TheVariants.{BadSettings, BadBuffers, BadPlace, BadJob, BadTable}
use Rattle.table.specs.declared.Entry.{Entry}
use Rattle.reading_log.specs.declared.LogRefusal.TheVariants.{BadLog}
use Rattle.reading_log.specs.Log.{bad_log}
use Rattle.reading_log.specs.Claims.{IsMultiple}
use Rattle.reading_log.proofs.Calls.{good_mod, good_log}
use Rattle.receive.specs.Reading.{read_refusals}
use Rattle.logging.specs.declared.KeepRefusal.{KeepRefusal}
use Rattle.logging.specs.declared.KeepRefusal.TheVariants.{ByReading, ByLog}
use Rattle.logging.specs.Walks.{keep_refusals}

never : {P : Type 0} (x : KeepRefusal) → ◌≡◌ {A = KeepChecked} (Err x) (Ok tt) → P
never x h = let bad : ◌≡◌ {A = ℕ} 0 1 = cc in absurd (omega arith)

-- a table that refuses nothing: its first row does not hold, and the rest refuses nothing
keep_row : {b : Bool} (x : KeepRefusal) (rows : Table KeepChecked) → first (b ⇒ Err x ∣ rows) ≡ Ok tt → (b ≡ false) × (first rows ≡ Ok tt)
keep_row {b} x rows h =
    by_test b (λ e. never x (sym (first-here (Err x) rows e) ∙ h)) (λ e. (e, sym (first_next (Err x) rows e) ∙ h))

-- a reading at that place is not refused, and the log's length is a multiple of 16
pub keep_fine : (s : Settings) (job : ℕ) (es : List Entry) (os ms : List ℕ) (p : ℕ) (l : List ℕ) → first (keep_refusals s job es os ms p l) ≡ Ok tt
    → (first (read_refusals s job es os ms p) ≡ Ok tt) × IsMultiple l
unfolding keep_refusals read_refusals
keep_fine s job es os ms p l h =
    let a = keep_row (ByReading BadSettings) _ h in
    let j = keep_row (ByReading BadJob) _ a.1 in
    let b = keep_row (ByReading BadBuffers) _ j.1 in
    let c = keep_row (ByReading BadPlace) _ b.1 in
    let t = keep_row (ByReading BadTable) _ c.1 in
    let d = keep_row (ByLog BadLog) _ t.1 in (
      first_next (Err BadSettings) _ a.0
          ∙ first_next (Err BadJob) _ j.0
          ∙ first_next (Err BadBuffers) _ b.0
          ∙ first_next (Err BadPlace) _ c.0
          ∙ first_next (Err BadTable) _ t.0
          ∙ first-other (Ok tt),
      good_mod l d.0,
    )

-- a log whose length is a multiple of 16: the walk is refused as a reading at that place, and goes on as it does
module _ (s : Settings) (job : ℕ) (es : List Entry) (os ms : List ℕ) (p : ℕ) (l : List ℕ) (good : IsMultiple l) where
  pub keep_goes : first (read_refusals s job es os ms p) ≡ Ok tt → first (keep_refusals s job es os ms p l) ≡ Ok tt
  unfolding keep_refusals read_refusals
  keep_goes h =
      let a = fine_row BadSettings _ h in
      let j = fine_row BadJob _ a.1 in
      let b = fine_row BadBuffers _ j.1 in
      let c = fine_row BadPlace _ b.1 in
      let t = fine_row BadTable _ c.1 in
      first_next (Err (ByReading BadSettings)) _ a.0
      ∙ first_next (Err (ByReading BadJob)) _ j.0
      ∙ first_next (Err (ByReading BadBuffers)) _ b.0
      ∙ first_next (Err (ByReading BadPlace)) _ c.0
      ∙ first_next (Err (ByReading BadTable)) _ t.0
      ∙ first_next (Err (ByLog BadLog)) _ (good_log l good)
      ∙ first-other (Ok tt)

-- and whatever the log is, a reading's refusal comes first
pub keep_read : (s : Settings) (job : ℕ) (es : List Entry) (os ms : List ℕ) (p : ℕ) (l : List ℕ) (x : Refusal)
    → first (read_refusals s job es os ms p) ≡ Err x
    → first (keep_refusals s job es os ms p l) ≡ Err (ByReading x)
unfolding keep_refusals read_refusals
keep_read s job es os ms p l x h =
    row _ _ _ BadSettings h
    (λ a. row _ _ _ BadJob a
    (λ b. row _ _ _ BadBuffers b (λ c. row _ _ _ BadPlace c (λ d. row _ _ _ BadTable d (λ z. absurd (not_fine x (sym (first-other (Ok tt)) ∙ z)))))))
  where
    not_fine : (x : Refusal) → ◌≡◌ {A = Checked} (Ok tt) (Err x) → ⊥
    not_fine x e = let bad : ◌≡◌ {A = ℕ} 0 1 = cc in omega arith

    -- a row that both tables have
    row : (b : Bool) (ts : Table Checked) (ks : Table KeepChecked) (z : Refusal) → first (b ⇒ Err z ∣ ts) ≡ Err x
        → (first ts ≡ Err x → first ks ≡ Err (ByReading x)) → first (b ⇒ Err (ByReading z) ∣ ks) ≡ Err (ByReading x)
    row b ts ks z g next =
        by_test b
        (λ t. first-here (Err (ByReading z)) ks t
        ∙ ap (λ (c : Checked). elim c [ Ok _ ↦ Ok tt | Err u ↦ Err (ByReading u) ]) (sym (first-here (Err z) ts t) ∙ g))
        (λ t. first_next (Err (ByReading z)) ks t ∙ next (sym (first_next (Err z) ts t) ∙ g))

-- a reading that is not refused, and another length: 11
pub keep_bad : (s : Settings) (job : ℕ) (es : List Entry) (os ms : List ℕ) (p : ℕ) (l : List ℕ) → first (read_refusals s job es os ms p) ≡ Ok tt
    → bad_log l ≡ true
    → first (keep_refusals s job es os ms p l) ≡ Err (ByLog BadLog)
unfolding keep_refusals read_refusals
keep_bad s job es os ms p l h bad =
    let a = fine_row BadSettings _ h in
    let j = fine_row BadJob _ a.1 in
    let b = fine_row BadBuffers _ j.1 in
    let c = fine_row BadPlace _ b.1 in
    let t = fine_row BadTable _ c.1 in
    first_next (Err (ByReading BadSettings)) _ a.0
    ∙ first_next (Err (ByReading BadJob)) _ j.0
    ∙ first_next (Err (ByReading BadBuffers)) _ b.0
    ∙ first_next (Err (ByReading BadPlace)) _ c.0
    ∙ first_next (Err (ByReading BadTable)) _ t.0
    ∙ first-here (Err (ByLog BadLog)) _ bad
