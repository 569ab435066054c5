-- Document 01, "Length rule", and document 02, item 2: rule 6, and what is handed out.
use Rattle.std.specs.Prelude.{ℕ, ◌-◌, ◌*◌, max, min, Bool, true, false, not, ◌&&◌, ◌||◌, cond, List, length, take, eqb, ltb, leb}
use Rattle.line.specs.Limits.{tag_size, least_type, most_length, least_data}
use Rattle.line.specs.Table.{◌⇒◌, ◌∣◌, otherwise, first}
use Rattle.fields.specs.declared.Layout.{Layout}
use Rattle.fields.specs.Fields.{field}
use Rattle.fields.specs.Places.{layout_of}
use Rattle.frame.specs.Frame.{data_from, frame_data}

-- the shortest data that a bridge leaves behind n tags: item 2's "the larger of the field and 46 - 4 × n"
unfoldable pub shortest : ℕ → ℕ → ℕ
shortest tags field = max field (least_data - tag_size * tags)

-- the rule, of the number of tags, a field and the number of data octets
unfoldable pub kept : ℕ → ℕ → ℕ → Bool
kept tags field octets =
    first
    (leb least_type field ⇒ true  -- "1536 or more is a type"
    ∣ ltb most_length field ⇒ false  -- "1501 to 1535: always wrong length"
    ∣ leb least_data field ⇒ eqb octets field  -- "46 to 1500: data must be exactly that long"
    ∣ otherwise (eqb octets least_data || eqb octets (shortest tags field)))  -- "under 46: data must be exactly 46, tagged or not", or, by item 2, shorter

-- rule 6: "length rule broken, checking on"; "With checking off, no test is made": of a frame laid out as l says, and of a frame
unfoldable pub breaks_length : Bool → Layout → List ℕ → Bool
breaks_length checking l f = checking && not (kept l.tags l.field (length (data_from l.place f)))

unfoldable pub wrong_length : Bool → List ℕ → Bool
wrong_length checking f = breaks_length checking (layout_of f) f

-- "only the first `field` octets are handed out"; "With checking off, … all data is handed out": how many of so many, of a field and the data behind
-- it, and of a frame
unfoldable pub handed_count : Bool → ℕ → ℕ → ℕ
handed_count checking field octets = cond (checking && ltb field least_data) (min field octets) octets

unfoldable pub handed_of : Bool → ℕ → List ℕ → List ℕ
handed_of checking field octets = cond (checking && ltb field least_data) (take field octets) octets

unfoldable pub client_data : Bool → List ℕ → List ℕ
client_data checking f = handed_of checking (field f) (frame_data f)

unfoldable pub handed_length : Bool → List ℕ → ℕ
handed_length checking f = length (client_data checking f)
