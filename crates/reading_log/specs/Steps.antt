-- Internal: one step of a compaction, as the code takes it. No promise to a caller needs it.
use Rattle.std.specs.Prelude.{ℕ, ◌+◌, ◌*◌, true, false, List}
use Rattle.line.specs.Limits.{record_size}
use Rattle.line.specs.Line.{overwrite}
use Rattle.reading_log.specs.Log.{is_used, slot_at}

-- record k is moved to place j, if it is used, and j goes on
unfoldable pub moved_log : List ℕ → ℕ → ℕ → List ℕ
moved_log l k j = elim (is_used (slot_at l k)) [ true ↦ overwrite l (record_size * j) (slot_at l k) | false ↦ l ]

unfoldable pub moved_count : List ℕ → ℕ → ℕ → ℕ
moved_count l k j = elim (is_used (slot_at l k)) [ true ↦ j + 1 | false ↦ j ]
