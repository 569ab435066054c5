-- Document 01, "Reading one Start": rules 3 to 5, "Frame" (its data) and "FCS". `f` is a whole frame, from destination to FCS.
use Rattle.std.specs.Prelude.{ℕ, ◌+◌, ◌-◌, ◌*◌, Bool, not, List, length, take, drop, ltb}
use Rattle.line.specs.Limits.{least_frame, tag_size, fcs_size}
use Rattle.line.specs.Octets.{same_octets, between}
use Rattle.fcs.specs.Fcs.{fcs}
use Rattle.fields.specs.Tags.{tag_count}
use Rattle.fields.specs.Fields.{data_place}

-- rule 3: "frame under 64 octets"
unfoldable pub undersized : List ℕ → Bool
undersized f = ltb (length f) least_frame

-- rule 4: "over the limit M, or M + 4 if tagged", and by item 1 of document 02 "M grows by 4 for each tag": by tag, and not by size. Of a number of
-- tags and of octets, and of a frame
unfoldable pub over_limit : ℕ → ℕ → ℕ → Bool
over_limit m tags octets = ltb (m + tag_size * tags) octets

unfoldable pub oversized : ℕ → List ℕ → Bool
oversized m f = over_limit m (tag_count f) (length f)

-- "Data runs from after the field to before the FCS": of a frame whose data begins at a place, and of a frame
unfoldable pub data_from : ℕ → List ℕ → List ℕ
data_from place f = between f place (length f - fcs_size)

unfoldable pub frame_data : List ℕ → List ℕ
frame_data f = data_from (data_place f) f

-- FCS: "It covers destination to the end of data."
unfoldable pub covered : List ℕ → List ℕ
covered f = take (length f - fcs_size) f

-- rule 5: "last four octets differ from the check"
unfoldable pub last_four : List ℕ → List ℕ
last_four f = drop (length f - fcs_size) f

unfoldable pub wrong_fcs : List ℕ → Bool
wrong_fcs f = not (same_octets (last_four f) (fcs (covered f)))
