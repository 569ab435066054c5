-- Claim 8, "For each, show that no second answer fits": where a promise is an equation, two answers that fit are one. Assumes nothing.
--
-- A call's promise names everything it leaves: `r ≡ ..` for the answer with its state, and for a sending call the record `sending r ..` of the
-- answer, the state and both lent buffers. So this one lemma serves every public function.
use mathlib.Core.Path.{◌≡◌, sym, ◌∙◌}

pub only {ℓ} : {A : Type ℓ} {meant r₁ r₂ : A} → r₁ ≡ meant → r₂ ≡ meant → r₁ ≡ r₂
only e₁ e₂ = e₁ ∙ sym e₂
