-- `logging::handed_out` meets its contract: in both ways the layout is the frame's. Assumes nothing.
use mathlib.Core.Path.{sym, ap, ◌∙◌}
use Prim.Native.Nat.{ℕ}
use Rattle.fields.specs.Places.{laid_out}
use Rattle.fields.proofs.Places.{laid_own}
use Rattle.logging.proofs.handed_out.Goals as goal

pub handed_record-requires : goal.handed_record-requires
handed_record-requires c =
    let f = c.args.f.now in
    (c.requires, c.laid_out.ensures ∙ ap (λ (n : ℕ). laid_out n f) (sym c.if-tags-eq0.true ∙ c.tag_count-tags.ensures) ∙ laid_own f)

pub handed_record-requires-2 : goal.handed_record-requires-2
handed_record-requires-2 c =
    let f = c.args.f.now in
    (c.requires, c.laid_out-2.ensures ∙ ap (λ (n : ℕ). laid_out n f) c.tag_count-tags.ensures ∙ laid_own f)
