-- Internal: for a case that antt computes, `unfolding computed` opens every definition of this crate and of those below. It says nothing itself.
use Rattle.fields.specs.Fields.{destination, first_field, field_place, field, data_place}
use Rattle.fields.specs.Tags.{is_tag_kind, tag_run, tag_count}
use Rattle.fields.specs.Places.{laid_out, layout_of}
use Rattle.line.specs.Computed as line

unfoldable pub computed : Unit {0}
unfolding line.computed destination first_field field_place field data_place is_tag_kind tag_run tag_count laid_out layout_of
computed = tt
