-- `table::find_address` meets its contract: six octets are a destination. Assumes nothing.
use Prim.Native.Nat.{ℕ}
use mathlib.Core.Path.{ap, ◌∙◌}
use mathlib.Core.List.{List}
use Rattle.table.specs.Entries.{own_entries, first_mine}
use Rattle.table.proofs.Written.{six-destination}
use borrow.Author.Rules.{rules}
use Rattle.table.proofs.find_address.Goals as goal

pub returns : goal.returns
returns c =
    let a = c.args in
    let all = six-destination a.a.0 (search rules) in
    (c.find_from.ensures.0 ∙ ap (λ (d : List ℕ). first_mine d 0 (own_entries a.job a.t.now)) all, c.find_from.ensures.1)
