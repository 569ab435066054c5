-- `Holder::from` of an octet gives who holds an entry. Assumes nothing.
use native.Mathlib.Omega.{arith}
use borrow.Author.Tests.{ne_eqb}
use Rattle.table.specs.Entries.{holder_by}
use Rattle.table.proofs.HolderFromU8.from.Goals as goal

pub returns-in-1 : goal.returns-in-1
unfolding holder_by
returns-in-1 c = rw c.in-1.is

pub returns-in-2 : goal.returns-in-2
unfolding holder_by
returns-in-2 c = rw c.in-2.is

pub returns-in_default : goal.returns-in_default
unfolding holder_by
returns-in_default c = rw (ne_eqb c.args.octet 1 (λ e. omega arith), ne_eqb c.args.octet 2 (λ e. omega arith))
