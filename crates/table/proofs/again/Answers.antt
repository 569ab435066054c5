-- `table::again` meets its contract: the entry is not the job's, or its address is looked for behind it. Assumes nothing.
use Prim.Native.Nat.{ℕ, ◌+◌, ◌*◌}
use mathlib.Core.Path.{◌≡◌, sym, ap, ◌∙◌}
use mathlib.Core.List.{List}
use lib.ListN.{drop}
use Rattle.station.specs.declared.Address.{Address}
use Rattle.fields.specs.Fields.{destination}
use Rattle.table.specs.Entries.{address_at, entry_at, own_entries, among, is_found}
use Rattle.table.proofs.Entries.{found_some, found_among, again-held, again-not, six_to}
use Rattle.table.proofs.again.Goals as goal
use Rattle.table.proofs.again.Goals.{After-is_some}

pub returns-then-not-holds_at : goal.returns-then-not-holds_at
returns-then-not-holds_at c = sym (again-not _ _ _ (cc))

-- what is looked for is the entry's address, all of it
sought : (c : After-is_some) → destination c.address_at-a.result.0 ≡ (address_at c.args.t.now (8 * c.args.k + 1)).0
sought c = ap (λ (a : Address). destination a.0) c.address_at-a.ensures ∙ six_to _ _

pub returns : goal.returns
unfolding entry_at
returns c =
    let a = c.args in
    let own = drop (a.k + 1) (own_entries a.job a.t.now) in
    c.is_some.ensures
    ∙ found_some c.find_from.result
    ∙ ap is_found c.find_from.ensures.0
    ∙ found_among _ (a.k + 1) own
    ∙ ap (λ (d : List ℕ). among d own) (sought (goal.at.returns c).After-is_some)
    ∙ sym (again-held _ _ own (cc))
