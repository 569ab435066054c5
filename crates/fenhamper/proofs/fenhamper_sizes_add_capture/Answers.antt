-- `fenhamper::fenhamper_sizes_add_capture` meets its contract. Assumes nothing.
use mathlib.Core.Path.{ap, ap₂, ◌∙◌}
use Rattle.station.specs.declared.Settings.{Settings}
use Rattle.table.specs.Entries.{entries_of}
use Rattle.sizes.specs.declared.SizeTable.{SizeTable}
use Rattle.sizes.specs.Sizes.{adding}
use Rattle.fenhamper.specs.Face.{sizes_given, add_told}
use Rattle.fenhamper.proofs.fenhamper_sizes_add_capture.Goals as goal

pub returns : goal.returns
unfolding add_told
returns c =
    let a = c.args in
    ap₂ sizes_given c.checked_number.ensures c.sizes_numbers.ensures
    ∙ ap add_told
    (c.add_capture-a.ensures
    ∙ ap₂ (λ (t : SizeTable) (s : Settings). adding t s a.job (entries_of a.table.now) a.octets.now a.marks.now) c.sizes_of.ensures c.settings.ensures)
