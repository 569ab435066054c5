-- Demand 1 of the table calls (document 02, item 10): "Table calls give only 14 to 18 and 20", each by exactly its numbers. The theorems are proofs/Tables.antt.
use Rattle.station.specs.Numbers.{Checked}
use Rattle.std.specs.Prelude.{ℕ, ◌<◌, ◌≡◌, List}
use Rattle.line.specs.Table.{Table}
use Rattle.table.specs.Calls.{Change}
use Rattle.table.specs.Claims.{placed_refusal}
use Rattle.mac.specs.Demand1.{Exactly}

-- a call on a table, with the numbers that it can refuse by; refused it leaves every octet
pub record ChangesOrRefuses (rows : Table Checked) (numbers t : List ℕ) (x : Change) : Type 0 where
  pub exactly : Exactly rows numbers (placed_refusal x.answer)
  pub refused : 0 < placed_refusal x.answer → x.table ≡ t
