-- What a layout says of its frame, and that it is the layout behind the frame's tags. Assumes nothing.
use Prim.Native.Nat.{ℕ}
use mathlib.Core.Path.{◌≡◌, refl, ap}
use mathlib.Core.List.{List}
use Rattle.fields.specs.declared.Layout.{Layout}
use Rattle.fields.specs.Tags.{tag_count}
use Rattle.fields.specs.Fields.{field_place, field, data_place}
use Rattle.fields.specs.Places.{laid_out, layout_of}

module _ (l : Layout) (f : List ℕ) (h : l ≡ layout_of f) where
  pub layout_tags : l.tags ≡ tag_count f
  unfolding layout_of
  layout_tags = ap (λ (x : Layout). x.tags) h

  pub layout-field : l.field ≡ field f
  unfolding layout_of
  layout-field = ap (λ (x : Layout). x.field) h

  pub layout-place : l.place ≡ data_place f
  unfolding layout_of
  layout-place = ap (λ (x : Layout). x.place) h

pub laid_own : (f : List ℕ) → laid_out (tag_count f) f ≡ layout_of f
unfolding laid_out layout_of field data_place field_place
laid_own f = refl
