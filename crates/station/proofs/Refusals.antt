-- What a table of refusals that refuses nothing tells, row by row. Assumes nothing.
use Rattle.std.specs.Prelude.{Err, Ok}
use Rattle.station.specs.Numbers.{Checked}
use Rattle.std.proofs.Common.{◌≡◌, ℕ, Bool, true, false, not, ◌||◌, sym, refl, ◌∙◌, arith}
use Rattle.line.specs.Table.{Table, ◌⇒◌, ◌∣◌, first}
use Rattle.line.proofs.Symbols.{by_test}
use Rattle.line.proofs.Tables.{first-here, first_next}
use Rattle.station.specs.declared.Refusal.{Refusal}

never : {P : Type 0} (x : Refusal) → ◌≡◌ {A = Checked} (Err x) (Ok tt) → P
never x h = let bad : ◌≡◌ {A = ℕ} 0 1 = cc in absurd (omega arith)

-- a table that refuses nothing: its first row does not hold, and the rest refuses nothing
pub fine_row : {b : Bool} (x : Refusal) (rows : Table Checked) → first (b ⇒ Err x ∣ rows) ≡ Ok tt → (b ≡ false) × (first rows ≡ Ok tt)
fine_row {b} x rows h =
    by_test b
    (λ e. never x (sym (first-here (Err x) rows e) ∙ h))
    (λ e. (e, sym (first_next (Err x) rows e) ∙ h))

pub or-false : (a b : Bool) → (a || b) ≡ false → (a ≡ false) × (b ≡ false)
or-false true b h = let bad : ◌≡◌ {A = ℕ} 0 1 = cc in absurd (omega arith)
or-false false b h = (refl, h)

pub not-false : (b : Bool) → not b ≡ false → b ≡ true
not-false true h = refl
not-false false h = let bad : ◌≡◌ {A = ℕ} 0 1 = cc in absurd (omega arith)
