-- `writing::put_end` meets its contract: two writes, by `◌⨾◌`; the check of the part is the FCS. Assumes nothing.
use mathlib.Core.Path.{ap, ◌∙◌}
use Rattle.splice.proofs.Laws.{◌⨾◌, put_as}
use Rattle.line.specs.Octets.{between}
use Rattle.fcs.specs.Fcs.{fcs_octets}
use Rattle.fcs.proofs.Laws.{fcs-is}
use Rattle.writing.specs.Pieces.{end_of}
use Rattle.writing.proofs.put_end.Goals as goal

pub returns : goal.returns
unfolding end_of between
returns c = put_as (c.octets-check.ensures ∙ ap fcs_octets c.check.ensures ∙ fcs-is _) c.put-a.ensures ⨾ c.put_gap.ensures
