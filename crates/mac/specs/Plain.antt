-- Demand 1, of the plain reader (document 02, item 12): what it says of a symbol's refusals. The theorem is proofs/Plain.antt.
use Rattle.station.specs.Numbers.{Checked}
use Rattle.std.specs.Prelude.{ℕ, ◌<◌, ◌≡◌, List}
use Rattle.line.specs.Table.{Table}
use Rattle.kept.specs.Values.{told_refusal}
use Rattle.plain.specs.declared.Plain.{Plain}
use Rattle.plain.specs.declared.Step.{Step}
use Rattle.mac.specs.Demand1.{Exactly}

-- a symbol in the state p: the refusals that it can give, and "with the state kept"
pub record StepsOrRefuses (rows : Table Checked) (numbers : List ℕ) (p : Plain) (k : Step) : Type 0 where
  pub exactly : Exactly rows numbers (told_refusal k.told)
  pub refused : 0 < told_refusal k.told → k.plain ≡ p
