-- `fenhamper::fenhamper_starts_before` meets its contract: a number of Starts goes out as an entry does. Assumes nothing.
use Rattle.std.specs.Prelude.{ℕ, ◌≡◌, Err, Ok, Result}
use mathlib.Core.Path.{refl, ap, ◌∙◌}
use Rattle.station.specs.declared.Refusal.{Refusal}
use Rattle.crossing.specs.Given.{entry_left, entry_told}
use Rattle.fenhamper.specs.Face.{starts_left, starts_told}
use Rattle.fenhamper.proofs.fenhamper_starts_before.Goals as goal

as_entry : (before : ℕ) (x : Result ℕ Refusal) → entry_told before x ≡ starts_told before x
unfolding entry_told entry_left starts_told starts_left
as_entry before (Ok n) = refl
as_entry before (Err x) = refl

pub returns : goal.returns
returns c = c.give_entry.ensures ∙ as_entry _ _ ∙ ap (starts_told _) c.starts_before.ensures
