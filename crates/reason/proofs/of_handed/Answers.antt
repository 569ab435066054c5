-- `reason::of_handed` meets its contract: data begins near the front. Assumes nothing.
use native.Mathlib.Omega.{arith}
use Rattle.fields.proofs.Tags.{data_place-small}
use Rattle.fields.proofs.Places.{layout-place}
use Rattle.reason.proofs.of_handed.Goals as goal

pub overflow_add-place : goal.overflow_add-place
overflow_add-place c = let f = c.args.f.now in omega (arith, layout-place _ f c.layout_of-l.ensures, data_place-small f)
