-- `fenhamper::fenhamper_sizes_add_table` meets its contract. Assumes nothing.
use mathlib.Core.Path.{ap, ap₂, ◌∙◌}
use Rattle.sizes.specs.Sizes.{add_tables}
use Rattle.crossing.specs.Bands.{sizes_numbers}
use Rattle.fenhamper.proofs.fenhamper_sizes_add_table.Goals as goal

pub returns : goal.returns
returns c = c.sizes_numbers.ensures ∙ ap sizes_numbers (c.add_tables.ensures ∙ ap₂ add_tables c.sizes_of-t.ensures c.sizes_of-u.ensures)
