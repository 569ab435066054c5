-- Internal: what the table's loops promise one another. No promise to a caller needs it.
use Rattle.std.specs.Prelude.{ℕ, ◌≡◌, Bool, true, false, cond, List, ◌∷◌, length, get_or, Option}
use Rattle.station.specs.declared.Address.{Address}
use Rattle.table.specs.Entries.{among}
use Rattle.table.specs.Tests.{again}

abbrev pub one_if : Bool → ℕ
one_if b = cond b 1 0

-- of 256 marks, those of the last octets of all addresses that are listed are set
abbrev pub Marked : List (Option Address) → List ℕ → Type 0
Marked ms seen = (length seen ≡ 256) × ((d : List ℕ) → among d ms ≡ true → get_or seen (get_or d 5 0) 0 ≡ 1)

-- an entry met anew: it is none of those marked before, and is marked with them
abbrev pub Met : Option Address → List ℕ → List ℕ → Type 0
Met m before after = (ms : List (Option Address)) → Marked ms before → (again m ms ≡ false) × Marked (m ∷ ms) after
