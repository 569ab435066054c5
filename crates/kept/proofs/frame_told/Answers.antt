-- `kept::frame_told` meets its contract: no more octets are handed out than there are, and data begins near the front. Assumes nothing.
use native.Mathlib.Omega.{arith}
use Prim.Native.Nat.{◌≤◌}
use mathlib.Core.Path.{ap, ◌∙◌}
use borrow.Author.Rules.{rules}
use Rattle.fields.specs.Places.{layout_of}
use Rattle.fields.proofs.Tags.{data_place-small}
use Rattle.fields.proofs.Places.{layout-place}
use Rattle.kept.specs.Kept.{front_of}
use Rattle.kept.proofs.Laws.{handed-within}
use Rattle.kept.proofs.frame_told.Goals as goal

pub word_of-word-requires : goal.word_of-word-requires
word_of-word-requires c =
    let h = handed-within c.args.s.checking c.layout_of-l.result.field c.data_length-all.result in
    let w : c.handed_count-handed.result ≤ c.data_length-all.result = omega (arith, c.handed_count-handed.ensures) in
    search rules

pub part_of-part-requires : goal.part_of-part-requires
part_of-part-requires c =
    let f = front_of c.args.r in
    omega (arith, layout-place _ f (c.layout_of-l.ensures ∙ ap layout_of c.requires), data_place-small f)
