-- `log::room` meets its contract: the log is compacted, or it has room. Assumes nothing.
use mathlib.Core.Path.{◌≡◌, sym, ap, ◌∙◌}
use Rattle.reading_log.specs.Log.{extent, compacted, roomy}
use Rattle.reading_log.proofs.Calls.{roomy-compacts, roomy_stays}
use Rattle.reading_log.proofs.Filled.{extent-compacted}
use Rattle.reading_log.proofs.room.Goals as goal

pub returns-then-k-log : goal.returns-then-k-log
returns-then-k-log c =
    let l = c.args.log.now in
    let r : roomy l ≡ compacted l = roomy-compacts l (sym c.requires.1 ∙ c.if-k-log.true) in
    (c.compact_front.ensures.0 ∙ sym r, c.compact_front.ensures.1 ∙ sym (extent-compacted l c.requires.0) ∙ ap extent (sym r))

pub returns : goal.returns
returns c =
    let r = roomy_stays c.args.log.now (λ q. c.if-k-log.false (c.requires.1 ∙ q)) in
    (sym r, c.requires.1 ∙ ap extent (sym r))
