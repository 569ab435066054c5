-- The C face of the size table (document 02, item 13): what its numbers stand for, and how they cross back. Decoding is total: any are some table.
use Rattle.std.specs.Prelude.{ℕ, List, ◌++◌, get_or}
use Rattle.sizes.specs.declared.SizeTable.{SizeTable}
use Rattle.crossing.specs.Records.{at_places}

-- a count for each of seven bands, of the numbers from `at` on; "every count is read whole"
abbrev pub counts_at : List ℕ → ℕ → List ℕ
counts_at l at = at_places (λ (i : ℕ). get_or l i 0) at 7

-- a size table, of 14 numbers: the frames of each band, then their octets
unfoldable pub sizes_of : List ℕ → SizeTable
sizes_of l = record { frames = counts_at l 0; octets = counts_at l 7 }

-- and back
unfoldable pub sizes_numbers : SizeTable → List ℕ
sizes_numbers t = counts_at t.frames 0 ++ counts_at t.octets 0
