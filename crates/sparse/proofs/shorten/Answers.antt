-- `sparse::shorten` meets its contract: from what is carried on, what is left of the octets has the register at the end that the whole has from `reg`.
-- Assumes nothing.
use mathlib.Core.Path.{◌∙◌}
use Prim.Native.Nat.{◌-◌}
use native.Mathlib.Omega.{arith}
use lib.ListN.{length}
use borrow.Author.Rules.{rules}
use Rattle.sparse.proofs.Window.{shortened}
use Rattle.sparse.proofs.shorten.Goals as goal

pub returns : goal.returns
returns c =
    shortened c.args.s.now c.loop-at.w c.reduce-2.new.w c.clear.new.w c.finish.new.w c.loop-at.at (length c.args.s.now - c.loop-at.at - 300)
    (omega arith) (omega arith) (omega arith) (omega arith) (omega arith) (λ k. omega (arith, c.type_inv.s k)) (search rules)
    c.reduce-2.ensures c.clear.ensures c.finish.ensures
    ∙ c.loop-at.invariant.2
