-- `fcs::stretch` meets its contract: every entry below `i + x` is right, and one more follows from the one n before it.
-- Assumes nothing.
use mathlib.Core.Path.{sym, ap₂, ◌∙◌}
use Prim.Native.Nat.{◌+◌, ◌-◌}
use native.Mathlib.Omega.{arith}
use lib.Bits.{bit_xor}
use lib.ListN.{get_or}
use Rattle.fcs.proofs.Lent.{fill_more}
use Rattle.fcs.proofs.stretch.Goals as goal

pub loop-x-preserved : goal.loop-x-preserved
loop-x-preserved c =
    let t = c.loop-x.t in
    let x = c.loop-x.x in
    let place = c.args.i + x in
    let from = place - c.args.n in
    let before = c.loop-x.invariant from (omega arith) in
    let right = ap₂ bit_xor before c.next_entry-b.ensures ∙ sym (c.requires.5 x (omega arith)) in
    λ j h. fill_more t place (bit_xor (get_or t from 0) c.next_entry-b.result) (omega arith) right c.loop-x.invariant j (omega arith)
