-- `table::bad_table` meets its contract: a blank table holds nothing, and of another each job is looked at. Assumes nothing.
use native.Mathlib.Omega.{arith}
use Prim.Native.Nat.{◌*◌}
use mathlib.Core.Path.{sym, ◌∙◌}
use Rattle.table.specs.Tests.{bad_table}
use Rattle.table.proofs.Entries.{blank_good}
use Rattle.table.proofs.bad_table.Goals as goal

pub returns-then-is_blank : goal.returns-then-is_blank
returns-then-is_blank c = sym (blank_good _ (λ k h. c.is_blank.ensures c.if-is_blank.true (8 * k) (omega arith)))

pub returns-then-is_overfull : goal.returns-then-is_overfull
unfolding bad_table
returns-then-is_overfull c = rw (sym c.is_overfull.ensures ∙ c.if-is_overfull.true)

pub returns : goal.returns
unfolding bad_table
returns c = rw (sym c.is_overfull.ensures ∙ c.if-is_overfull.false) c.is_overfull-2.ensures
