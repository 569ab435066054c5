-- Document 01, "Frame": the parts of a frame that stand at known places. `f` is a whole frame, from destination to FCS.
use Rattle.std.specs.Prelude.{ℕ, ◌+◌, ◌*◌, List, take}
use Rattle.line.specs.Limits.{tag_size}
use Rattle.line.specs.Octets.{high_first_at}
use Rattle.fields.specs.Tags.{tag_count}

-- "Destination 6"
unfoldable pub destination : List ℕ → List ℕ
destination f = take 6 f

-- "source 6, field 2": the field right after the addresses
unfoldable pub first_field : List ℕ → ℕ
first_field f = high_first_at f 12

-- "two octets of tag control, then the real field": where the real field stands, and what it says
unfoldable pub field_place : List ℕ → ℕ
field_place f = 12 + tag_size * tag_count f

unfoldable pub field : List ℕ → ℕ
field f = high_first_at f (field_place f)

-- "Data runs from after the field": where it begins
unfoldable pub data_place : List ℕ → ℕ
data_place f = field_place f + 2
