-- `flow::set_all` meets its contract: eight copies are as many as there are timers. Assumes nothing.
use mathlib.Core.Path.{◌≡◌}
use lib.ListN.{length}
use Rattle.flow.proofs.TimerLaws.{set_all-replicate}
use borrow.Author.Rules.{rules}
use Rattle.flow.proofs.set_all.Goals as goal

pub returns : goal.returns
returns c =
    let eight : length c.args.timers ≡ 8 = search rules in
    rw (c.slots.ensures, set_all-replicate, eight)
