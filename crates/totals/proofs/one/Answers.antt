-- `totals::one` meets its contract: the two tests are those of a Start. Assumes nothing.
use Rattle.std.specs.Int.{from_bool}
use Prim.Native.Nat.{ℕ}
use mathlib.Core.Path.{◌≡◌, refl, sym, ap, ◌∙◌}
use mathlib.Core.Bool.{Bool, true, false, not, cond}
use lib.Dec.{eqb}
use borrow.Author.Tests.{eq-eqb, eqb-true, eqb-false}
use Rattle.line.specs.Line.{is_start}
use Rattle.line.proofs.Symbols.{by_test}
use Rattle.line.proofs.Search.{start-tests, no_start_data, no_start-octet}
use Rattle.totals.proofs.one.Goals as goal
use Rattle.totals.proofs.one.Goals.{then-mark-ne0, else-mark-ne0}

number : (b : Bool) → from_bool b ≡ cond b 1 0
number true = refl
number false = refl

-- a control symbol is a Start by its octet
by_octet : (octet mark : ℕ) → (mark ≡ 0 → ⊥) → eqb octet 251 ≡ is_start (record { octet = octet; mark = mark })
by_octet octet mark control =
    by_test (eqb octet 251)
    (λ e. e ∙ sym (start-tests _ control (eqb-true octet 251 e)))
    (λ e. e ∙ sym (no_start-octet _ (eqb-false octet 251 e)))

-- data is none
by_mark : (octet mark : ℕ) → mark ≡ 0 → not (eqb mark 0) ≡ is_start (record { octet = octet; mark = mark })
by_mark octet mark zero = ap not (eq-eqb mark 0 zero) ∙ sym (no_start_data _ zero)

pub returns : goal.returns
returns c =
    let a = c.args in
    let is : c.if-mark-ne0.from ≡ is_start (record { octet = a.octet; mark = a.mark }) =
    elim c.if-mark-ne0.branch [
      | then-mark-ne0 w ↦ w.from-is ∙ by_octet a.octet a.mark w.if-mark-ne0.true
      | else-mark-ne0 w ↦ w.from-is ∙ by_mark a.octet a.mark w.if-mark-ne0.false
    ] in
    c.from.ensures ∙ number c.if-mark-ne0.from ∙ ap (λ (b : Bool). cond b 1 0) is
