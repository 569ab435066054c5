-- `station::screen` meets its contract: a turn is `shown-next` of Shown. Assumes nothing.
use Rattle.std.proofs.Common.{refl, arith, rules}
use Rattle.station.proofs.Shown.{shown-next, shown_all}
use Rattle.station.proofs.screen.Goals as goal

pub loop-k-init : goal.loop-k-init
loop-k-init c = (search rules, search rules, refl)

pub loop-k-preserved : goal.loop-k-preserved
loop-k-preserved c =
    let l = c.loop-k in (
      search rules,
      search rules,
      shown-next _ _ l.k (omega arith) (omega arith) l.invariant.2,
    )

pub returns : goal.returns
returns c = let l = c.loop-k in shown_all _ _ l.k (omega arith) (omega arith) l.invariant.2
