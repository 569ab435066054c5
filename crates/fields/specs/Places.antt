-- The layout of a frame, as the code finds it in one go. `f` is a whole frame.
use Rattle.std.specs.Prelude.{ℕ, ◌+◌, ◌*◌, List}
use Rattle.line.specs.Limits.{tag_size}
use Rattle.line.specs.Octets.{high_first_at}
use Rattle.fields.specs.declared.Layout.{Layout}
use Rattle.fields.specs.Tags.{tag_count}
use Rattle.fields.specs.Fields.{field, data_place}

-- "two octets of tag control, then the real field": of a frame with so many tags
unfoldable pub laid_out : ℕ → List ℕ → Layout
laid_out tags f = record { tags = tags; field = high_first_at f (12 + tag_size * tags); place = 12 + tag_size * tags + 2 }

-- of a frame: the three definitions of Tags and Fields side by side
unfoldable pub layout_of : List ℕ → Layout
layout_of f = record { tags = tag_count f; field = field f; place = data_place f }
