-- `table::met` meets its contract: an entry whose last octet is not marked yet is none of those before it. Assumes nothing.
use native.Mathlib.Omega.{arith}
use mathlib.Core.Path.{◌∙◌}
use Rattle.table.specs.Entries.{entry_at}
use Rattle.table.proofs.Marks.{ends, met-not, met-new}
use Rattle.table.proofs.met.Goals as goal

pub returns-then-not-holds_at : goal.returns-then-not-holds_at
returns-then-not-holds_at c =
    let a = c.args in
    λ e. met-not a.job (entry_at a.t.now a.k) a.seen.now (cc)

pub returns : goal.returns
returns c =
    let a = c.args in
    λ _. met-new a.job (entry_at a.t.now a.k) a.seen.now c.from-last.result (cc)
    (c.from-last.ensures ∙ c.last_octet.ensures ∙ ends a.t.now a.k)
    (omega arith)
    c.if-seen-last-ne0.false
