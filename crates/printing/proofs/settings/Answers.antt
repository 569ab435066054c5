-- `lines::settings` meets its contract. Assumes nothing.
use mathlib.Core.Path.{refl}
use Rattle.printing.specs.Lines.{program_settings}
use Rattle.printing.proofs.settings.Goals as goal

pub returns : goal.returns
unfolding program_settings
returns c = refl
