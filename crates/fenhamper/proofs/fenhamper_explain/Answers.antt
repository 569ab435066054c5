-- `fenhamper::fenhamper_explain` meets its contract. Assumes nothing.
use mathlib.Core.Path.{ap, ◌∙◌}
use Rattle.station.specs.declared.Settings.{Settings}
use Rattle.table.specs.Entries.{entries_of}
use Rattle.reason.specs.Reasons.{explained}
use Rattle.crossing.specs.Records.{explain_numbers}
use Rattle.fenhamper.proofs.fenhamper_explain.Goals as goal

pub returns : goal.returns
returns c =
    let a = c.args in
    c.explain_numbers.ensures
    ∙ ap explain_numbers
    (c.explain.ensures ∙ ap (λ (s : Settings). explained s a.job (entries_of a.table.now) a.octets.now a.marks.now a.place) c.settings.ensures)
