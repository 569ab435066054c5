-- Document 01, "Address rule": broadcast. The rule itself goes by the address table of two jobs (crate table).
use Rattle.std.specs.Prelude.{ℕ, List, [], ◌∷◌}

-- "broadcast (all ones)"
unfoldable pub broadcast_address : List ℕ
broadcast_address = 0xFF ∷ 0xFF ∷ 0xFF ∷ 0xFF ∷ 0xFF ∷ 0xFF ∷ []
