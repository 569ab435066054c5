-- `fenhamper::fenhamper_table_add` meets its contract. Assumes nothing.
use mathlib.Core.Path.{ap, ◌∙◌}
use Rattle.table.specs.Calls.{added}
use Rattle.fenhamper.proofs.Calls.{table_crosses}
use Rattle.fenhamper.proofs.fenhamper_table_add.Goals as goal

pub returns : goal.returns
returns c = table_crosses _ c.give_entry.ensures (c.add.ensures ∙ ap (added _ _) c.address.ensures)
