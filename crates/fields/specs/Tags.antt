-- Document 01, "Frame", and document 02, item 1: tags.
use Rattle.std.specs.Prelude.{ℕ, zero, suc, ◌+◌, Bool, true, false, ◌||◌, List, drop, eqb}
use Rattle.line.specs.Limits.{tag_size, most_tags}
use Rattle.line.specs.Octets.{high_first_at}

-- "Field 0x8100 means tagged"; item 1: "up to eight tags of either kind, in any order"
unfoldable pub is_tag_kind : ℕ → Bool
is_tag_kind field = eqb field 0x8100 || eqb field 0x88A8

-- how many tags stand at the front, of `most` at most: "a run that is one tag followed by a shorter run"; "a ninth is an ordinary type"
unfoldable pub tag_run : ℕ → List ℕ → ℕ
tag_run zero l = 0
tag_run (suc most) l = elim (is_tag_kind (high_first_at l 0)) [ true ↦ 1 + tag_run most (drop tag_size l) | false ↦ 0 ]

-- the number of tags of a frame: they stand after the two addresses
unfoldable pub tag_count : List ℕ → ℕ
tag_count f = tag_run most_tags (drop 12 f)
