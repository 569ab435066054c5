-- `table::way` meets its contract: the tests that led to a return say which part of the rule holds. Assumes nothing.
use mathlib.Core.Path.{sym, ◌∙◌}
use Rattle.table.proofs.Ways.{way_broadcast, way_unbroadcast, way-own, way-listed}
use Rattle.table.proofs.way.Goals as goal

pub returns-then-s : goal.returns-then-s
returns-then-s c =
    sym (way_broadcast _ _ _ (sym c.is_broadcast.ensures ∙ c.if-is_broadcast.true) c.if-s.true)

pub returns-then-is_broadcast : goal.returns-then-is_broadcast
returns-then-is_broadcast c =
    c.otherwise_way.ensures ∙ sym (way_unbroadcast _ _ _ (sym c.is_broadcast.ensures ∙ c.if-is_broadcast.true) c.if-s.false)

pub returns-then-to : goal.returns-then-to
returns-then-to c =
    sym (way-own _ _ _ (sym c.is_broadcast.ensures ∙ c.if-is_broadcast.false) (sym c.to.ensures ∙ c.if-to.true))

pub returns : goal.returns
returns c =
    let apart = sym c.is_broadcast.ensures ∙ c.if-is_broadcast.false in
    c.entry_way.ensures
    ∙ way-listed _ _ _ apart (sym c.to.ensures ∙ c.if-to.false) _ c.find_from-found.ensures.0
