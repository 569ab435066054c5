-- `fcs::StaticFolds::after12` meets its contract: octets that are 0 in front leave no trace.
-- Assumes nothing.
use mathlib.Core.Path.{◌∙◌}
use Rattle.crc.proofs.Linear.{zeros_shifted}
use Rattle.fcs.proofs.StaticFolds.after12.Goals as goal

pub returns : goal.returns
returns c = c.after16.ensures ∙ zeros_shifted 4 12 c.args.x
