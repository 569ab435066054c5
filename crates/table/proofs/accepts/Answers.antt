-- `table::accepts` meets its contract: the tests that led to a return say which part of the rule holds. Assumes nothing.
use mathlib.Core.Path.{sym, ap, ◌∙◌}
use Rattle.table.specs.Entries.{is_found}
use Rattle.table.proofs.Entries.{found_some, found_among}
use Rattle.table.proofs.Ways.{accepts_all, accepts_broadcast, accepts-own, accepts-listed}
use Rattle.table.proofs.accepts.Goals as goal

pub returns-then-s : goal.returns-then-s
returns-then-s c = sym (accepts_all _ _ _ c.if-s.true)

pub returns-then-is_broadcast : goal.returns-then-is_broadcast
returns-then-is_broadcast c = sym (accepts_broadcast _ _ _ c.if-s.false (sym c.is_broadcast.ensures ∙ c.if-is_broadcast.true))

pub returns-then-to : goal.returns-then-to
returns-then-to c =
    sym (accepts-own _ _ _ c.if-s.false (sym c.is_broadcast.ensures ∙ c.if-is_broadcast.false) (sym c.to.ensures ∙ c.if-to.true))

pub returns : goal.returns
returns c =
    c.is_some.ensures
    ∙ found_some c.find_from.result
    ∙ ap is_found c.find_from.ensures.0
    ∙ found_among _ 0 _
    ∙ sym (accepts-listed _ _ _ c.if-s.false (sym c.is_broadcast.ensures ∙ c.if-is_broadcast.false) (sym c.to.ensures ∙ c.if-to.false))
