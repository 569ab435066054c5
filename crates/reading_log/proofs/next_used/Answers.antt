-- `log::next_used` meets its contract. The first used record from k on is the first from the start on: `next_turn`. Assumes nothing.
use native.Mathlib.Omega.{arith}
use mathlib.Core.Path.{◌≡◌, sym, ◌∙◌}
use Rattle.reading_log.proofs.Searches.{slot_used, slot_unused, next_stop, next_turn, next-end}
use Rattle.reading_log.proofs.next_used.Goals as goal

pub returns-then-log-k-ne0 : goal.returns-then-log-k-ne0
returns-then-log-k-ne0 c = sym (c.loop-k.invariant.1 ∙ next_stop _ _ (omega arith) (slot_used _ _ c.if-log-k-ne0.true))

pub loop-k-preserved : goal.loop-k-preserved
loop-k-preserved c = (omega arith, c.loop-k.invariant.1 ∙ next_turn _ _ (omega arith) (slot_unused _ _ c.if-log-k-ne0.false))

pub returns : goal.returns
returns c =
    let m = c.max.ensures in
    let e : c.max.result ≡ c.loop-k.k = omega arith in
    e ∙ sym (c.loop-k.invariant.1 ∙ next-end _ _ (omega arith))
