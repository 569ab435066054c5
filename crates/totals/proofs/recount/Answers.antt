-- `totals::recount` meets its contract. The invariant: the blocks up to k are counted anew, and no other (`turn` of Laws). Assumes nothing.
use mathlib.Core.Path.{sym, ap, ap₂, ◌∙◌}
use mathlib.Core.List.{List}
use Prim.Native.Nat.{ℕ, ◌*◌}
use native.Mathlib.Omega.{arith}
use lib.ListN.{length, set}
use Rattle.line.specs.Limits.{block_size}
use Rattle.line.specs.Line.{capture}
use Rattle.totals.proofs.Laws.{begin, turn, end, none-recounted, length-recounted}
use Rattle.totals.proofs.recount.Goals as goal

pub loop-k-init : goal.loop-k-init
loop-k-init c = sym (begin _ _ _)

pub bounds-totals-k : goal.bounds-totals-k
bounds-totals-k c =
    let l = c.loop-k in
    let a = c.args in
    let n = ap length l.invariant ∙ length-recounted (capture a.octets.now a.marks.now) a.from (block_size * l.k) a.totals.now in
    let m = c.requires.2 in
    omega arith

pub loop-k-preserved : goal.loop-k-preserved
loop-k-preserved c =
    let l = c.loop-k in
    let a = c.args in
    let m = c.requires.2 in
    ap₂ (λ (t : List ℕ) (v : ℕ). set t l.k v) l.invariant c.block_total.ensures
    ∙ turn (capture a.octets.now a.marks.now) a.from l.k a.totals.now (omega arith) (omega arith)

pub returns-after-loop-k : goal.returns-after-loop-k
returns-after-loop-k c =
    let l = c.loop-k in
    let a = c.args in
    l.invariant ∙ end (capture a.octets.now a.marks.now) a.from a.to l.k a.totals.now (omega arith) (omega arith)

pub returns-else-from-to : goal.returns-else-from-to
returns-else-from-to c =
    let a = c.args in
    sym (none-recounted (capture a.octets.now a.marks.now) a.from a.to a.totals.now (omega arith))
