-- `table::is_overfull` meets its contract. Assumes nothing.
use mathlib.Core.Path.{sym, ap, ◌∙◌}
use borrow.Author.Tests.{lt-ltb, le-ltb}
use lib.Dec.{ltb}
use Rattle.line.specs.Limits.{most_held}
use Rattle.table.specs.Tests.{overfull}
use Rattle.table.proofs.is_overfull.Goals as goal

pub returns-then-holds-gt-MOST_HELD : goal.returns-then-holds-gt-MOST_HELD
unfolding overfull
returns-then-holds-gt-MOST_HELD c = rw (ap (ltb most_held) (sym c.holds.ensures) ∙ lt-ltb _ _ c.if-holds-gt-MOST_HELD.true)

pub returns : goal.returns
unfolding overfull
returns c = rw (ap (ltb most_held) (sym c.holds.ensures) ∙ le-ltb _ _ c.if-holds-gt-MOST_HELD.false) c.has_twice.ensures
