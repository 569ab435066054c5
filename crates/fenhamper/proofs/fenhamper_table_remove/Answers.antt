-- `fenhamper::fenhamper_table_remove` meets its contract. Assumes nothing.
use mathlib.Core.Path.{ap, ◌∙◌}
use Rattle.table.specs.Calls.{removed}
use Rattle.fenhamper.proofs.Calls.{table_crosses}
use Rattle.fenhamper.proofs.fenhamper_table_remove.Goals as goal

pub returns : goal.returns
returns c = table_crosses _ c.give_entry.ensures (c.remove.ensures ∙ ap (removed _ _) c.address.ensures)
