-- What a program prints can be longer than the room that it has: it writes it part by part.
use Rattle.std.specs.Prelude.{ℕ, zero, suc, ◌+◌, true, false, List, [], ◌++◌, eqb, length, take, drop}

-- of a text the octets from `from` on, as many as there is room for
abbrev pub part : ℕ → ℕ → List ℕ → List ℕ
part room from text = take room (drop from text)

-- what a program writes that asks for part after part, each from where the one before ended, until one does not fill the room; `left` parts at most
unfoldable pub in_parts : ℕ → ℕ → ℕ → List ℕ → List ℕ
in_parts zero room from text = []
in_parts (suc left) room from text =
    part room from text ++ elim (eqb (length (part room from text)) room) [ true ↦ in_parts left room (from + room) text | false ↦ [] ]
