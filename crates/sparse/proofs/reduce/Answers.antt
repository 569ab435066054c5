-- `sparse::reduce` meets its contract: i octets are taken off.
-- Assumes nothing.
use native.Mathlib.Omega.{arith}
use borrow.Author.Rules.{rules}
use Prim.Native.Nat.{◌+◌}
use Rattle.sparse.proofs.Window.{cut-none, cut_more, bytes_set}
use Rattle.sparse.proofs.reduce.Goals as goal

pub loop-i-init : goal.loop-i-init
loop-i-init c = record { window = search rules; cut = cut-none c.args.s.now c.args.w.now c.args.at }

pub loop-i-preserved : goal.loop-i-preserved
loop-i-preserved c = record {
  window = bytes_set c.loop-i.w (c.loop-i.i + 300) c.out_of.result c.loop-i.invariant.window c.out_of.type_inv;
  cut = cut_more c.args.s.now c.args.w.now c.loop-i.w c.args.at c.loop-i.i c.out_of.result (λ k. omega (arith, c.type_inv.s k))
      c.loop-i.invariant.window c.out_of.type_inv (omega arith) (omega arith) c.out_of.ensures c.loop-i.invariant.cut;
}
