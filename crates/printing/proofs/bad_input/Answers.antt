-- `bad_input` meets its contract. The test decides. Assumes nothing.
use borrow.Author.Tests.{eq-eqb, ne_eqb}
use Rattle.printing.specs.Lines.{bad_input}
use Rattle.printing.proofs.bad_input.Goals as goal

pub returns-then-input-eq1 : goal.returns-then-input-eq1
unfolding bad_input
returns-then-input-eq1 c = rw (eq-eqb _ _ c.if-input-eq1.true)

pub returns-else-input-eq1 : goal.returns-else-input-eq1
unfolding bad_input
returns-else-input-eq1 c = rw (ne_eqb _ _ c.if-input-eq1.false)
