-- Demand 1: what it says of a call's refusals. The theorems are proofs/Demand1.antt.
use Rattle.station.specs.Numbers.{Checked}
use Rattle.std.specs.Prelude.{ℕ, ◌+◌, ◌<◌, ◌≡◌, Bool, true, false, cond, ◌&&◌, ◌||◌, ◌↔◌, List, [], ◌∷◌, eqb}
use Rattle.line.specs.Table.{Table, otherwise, ◌∣◌}
use Rattle.station.specs.declared.State.{State}
use Rattle.station.specs.Numbers.{checked_number}
use Rattle.receive.specs.declared.Reading.{Reading}
use Rattle.receive.specs.Reading.{empty_part}
use Rattle.receive.specs.Values.{answer_refusal, answer_status, answer_part}
use Rattle.send.specs.Sending.{SendCall, send_refusal}

-- the numbers of the refusals that a table can give, in the order in which they are tried
unfoldable pub numbers_of : Table Checked → List ℕ
numbers_of (otherwise a) = []
numbers_of (r ∣ rows) = checked_number r.gives ∷ numbers_of rows

-- the row of refusal n holds
unfoldable pub row_holds : Table Checked → ℕ → Bool
row_holds (otherwise a) n = false
row_holds (r ∣ rows) n = (eqb (checked_number r.gives) n && r.holds) || row_holds rows n

-- the place of a number in a list of numbers; the list's length where it is not in it
unfoldable pub place_in : List ℕ → ℕ → ℕ
place_in [] n = 0
place_in (k ∷ numbers) n = cond (eqb k n) 0 (1 + place_in numbers n)

-- "Lowest number first"; document 02, item 1: "10, …, tested after 6 and before 7"; item 5: "3 …, then new 19"; item 10: "14 …, tested right after 1". A call's
-- numbers are listed in the order in which they are tried: the row of no number that stands before n in the list holds
abbrev pub NoneBefore : Table Checked → List ℕ → ℕ → Type 0
NoneBefore rows numbers n = (m : ℕ) → place_in numbers m < place_in numbers n → row_holds rows m ≡ false

-- "Given exactly when": the rows of a call have these `numbers`, in this order; the number `given`, 0 for no refusal, is n exactly when the row of n
-- holds and that of none before it does; and it is 0 exactly when no row holds
pub record Exactly (rows : Table Checked) (numbers : List ℕ) (given : ℕ) : Type 0 where
  pub listed : numbers_of rows ≡ numbers
  pub earliest : (n : ℕ) → 0 < n → (given ≡ n) ↔ ((row_holds rows n ≡ true) × NoneBefore rows numbers n)
  pub none : (given ≡ 0) ↔ ((m : ℕ) → row_holds rows m ≡ false)

-- "A refusal gives its number, status 0, an empty part, the place it was called with (in a reading, as both places), the old state"
pub record ReadRefused (st : State) (place : ℕ) (r : Reading) : Type 0 where
  pub word : answer_status r.answer ≡ 0
  pub part : answer_part r.answer ≡ empty_part
  pub start : r.start ≡ place
  pub next : r.next ≡ place
  pub state : r.state ≡ st

-- "… and untouched buffers."
pub record SendRefused (st : State) (os ms : List ℕ) (place : ℕ) (x : SendCall) : Type 0 where
  pub at : x.given.place ≡ place
  pub state : x.given.state ≡ st
  pub octets : x.octets ≡ os
  pub marks : x.marks ≡ ms

-- what demand 1 says of a reading, and of a sending call, with the numbers that it can refuse by
pub record ReadsOrRefuses (rows : Table Checked) (numbers : List ℕ) (st : State) (place : ℕ) (r : Reading) : Type 0 where
  pub exactly : Exactly rows numbers (answer_refusal r.answer)
  pub refused : 0 < answer_refusal r.answer → ReadRefused st place r

pub record SendsOrRefuses (rows : Table Checked) (numbers : List ℕ) (st : State) (os ms : List ℕ) (place : ℕ) (x : SendCall) : Type 0 where
  pub exactly : Exactly rows numbers (send_refusal x.given.answer)
  pub refused : 0 < send_refusal x.given.answer → SendRefused st os ms place x
