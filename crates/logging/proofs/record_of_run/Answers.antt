-- `logging::record_of_run` meets its contract. Assumes nothing.
use native.Mathlib.Omega.{arith}
use Prim.Native.Nat.{ℕ}
use mathlib.Core.Path.{sym, ap, ◌∙◌}
use mathlib.Core.List.{List}
use lib.ListN.{length, length-drop}
use borrow.Author.Rules.{rules}
use Rattle.outcome.specs.Outcomes.{frame_of}
use Rattle.table.specs.Entries.{own_entries}
use Rattle.logging.specs.Records.{record_at}
use Rattle.logging.specs.Steps.{record_of_frame}
use Rattle.logging.proofs.Loops.{untold}
use Rattle.logging.proofs.record_of_run.Goals as goal

pub returns-then-not-tells : goal.returns-then-not-tells
returns-then-not-tells c =
    let a = c.args in
    let h = c.if-not-tells.true in
    c.record_at.ensures
    ∙ ap (λ (n : ℕ). record_at a.start n 0 0 0) c.outcome_number.ensures
    ∙ untold a.s _ a.start (frame_of a.run.now) a.o (sym c.tells.ensures ∙ search rules)

pub record_of_frame-requires : goal.record_of_frame-requires
unfolding frame_of
record_of_frame-requires c =
    let a = c.args in
    omega (arith, ap length c.frame_of.ensures, length-drop 7 a.run.now)

pub returns : goal.returns
returns c =
    let a = c.args in
    c.record_of_frame.ensures
    ∙ ap (λ (f : List ℕ). record_of_frame a.s (own_entries a.job a.table.now) a.start f a.o) c.frame_of.ensures
