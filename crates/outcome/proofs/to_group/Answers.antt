-- `outcome::to_group` meets its contract. Assumes nothing.
use Prim.Native.Nat.{ℕ, ◌%◌}
use mathlib.Core.Path.{sym, ap, ◌∙◌}
use lib.Dec.{eqb}
use Rattle.outcome.proofs.Words.{group-octet}
use Rattle.outcome.proofs.to_group.Goals as goal

pub returns : goal.returns
returns c = ap (λ (o : ℕ). eqb (o % 2) 1) c.octet.ensures ∙ sym (group-octet _)
