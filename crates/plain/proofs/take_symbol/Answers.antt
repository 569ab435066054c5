-- `plain::take_symbol` meets its contract: where the symbol is not refused, there is room for one more. Assumes nothing.
use Rattle.std.proofs.Common.{sym, ◌∙◌, rules}
use Rattle.table.specs.Entries.{entries_of}
use Rattle.kept.proofs.Laws.{room-left}
use Rattle.plain.proofs.take_symbol.Goals as goal

pub overflow_add-next : goal.overflow_add-next
overflow_add-next c =
    let a = c.args in
    let h = room-left a.s a.job (entries_of a.table.now) a.p.place (sym c.check_symbol.ensures ∙ c.in_default.is) in
    search rules
