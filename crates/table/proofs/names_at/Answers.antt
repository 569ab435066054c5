-- `table::names_at` meets its contract. Assumes nothing.
use mathlib.Core.Path.{sym, ap, ◌∙◌}
use Rattle.line.specs.Octets.{same_octets}
use Rattle.station.specs.declared.Address.{Address}
use Rattle.fields.specs.Fields.{destination}
use Rattle.table.specs.Entries.{entry_at}
use Rattle.table.proofs.Entries.{names-held, names-not}
use Rattle.table.proofs.names_at.Goals as goal

pub returns-then-not-holds_at : goal.returns-then-not-holds_at
returns-then-not-holds_at c = sym (names-not _ _ _ (cc))

pub returns : goal.returns
unfolding entry_at
returns c =
    let d = destination c.args.f.now in
    c.to.ensures ∙ ap (λ (a : Address). same_octets d a.0) c.address_at-a.ensures
    ∙ sym (names-held _ _ _ (cc))
