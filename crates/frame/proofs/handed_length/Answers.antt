-- `frame::handed_length` meets its contract. Assumes nothing.
use mathlib.Core.Path.{◌∙◌}
use Rattle.frame.proofs.Length.{handed-count}
use Rattle.frame.proofs.handed_length.Goals as goal

pub returns : goal.returns
returns c = let a = c.args in c.handed_count.ensures ∙ handed-count a.checking a.field a.octets.now
