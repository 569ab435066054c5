-- `fenhamper::fenhamper_plain_symbol` meets its contract. Assumes nothing.
use mathlib.Core.Path.{ap, ap₂, ◌∙◌}
use Rattle.station.specs.declared.Settings.{Settings}
use Rattle.table.specs.Entries.{entries_of}
use Rattle.plain.specs.declared.Plain.{Plain}
use Rattle.plain.specs.Plain.{step}
use Rattle.crossing.specs.Reader.{plain_of}
use Rattle.fenhamper.proofs.Calls.{plain_crosses}
use Rattle.fenhamper.proofs.fenhamper_plain_symbol.Goals as goal

pub returns : goal.returns
returns c =
    let a = c.args in
    plain_crosses _ _ c.told_numbers.ensures c.leave_reader.ensures c.leave_counted.ensures
    (c.take_symbol-k.ensures
    ∙ ap₂ (λ (s : Settings) (p : Plain). step s a.job (entries_of a.table.now) p (record { octet = a.octet; mark = a.mark })) c.settings.ensures
    (c.plain_of-before.ensures ∙ ap (plain_of a.reader.now a.first.now a.last.now) c.state_of.ensures))
