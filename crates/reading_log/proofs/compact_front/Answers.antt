-- `log::compact_front` meets its contract. What is kept already and what is still to be kept stay the same together: `kept_turn`. Assumes nothing.
use Prim.Native.Nat.{ℕ, ◌/◌}
use native.Mathlib.Omega.{arith}
use mathlib.Core.Path.{◌≡◌, sym, ap, ◌∙◌}
use lib.ListN.{length}
use Rattle.line.specs.Limits.{record_size}
use Rattle.reading_log.proofs.Kept.{kept_from, kept-start, kept_turn, kept-end}
use Rattle.reading_log.proofs.compact_front.Goals as goal

pub loop-k-init : goal.loop-k-init
loop-k-init c = (omega arith, kept-start _)

pub loop-k-preserved : goal.loop-k-preserved
loop-k-preserved c =
    let l = c.loop-k in
    let n = length c.args.log.now / record_size in
    let t = kept_turn l.log n l.k l.j (omega arith) (omega arith) (omega arith) _ _ c.keep_record-j.ensures.0 c.keep_record-j.ensures.1 in
    (t.low, t.kept ∙ l.invariant.1)

pub returns : goal.returns
returns c =
    let l = c.loop-k in
    let l₀ = c.args.log.now in
    let n = length l₀ / record_size in
    let e : l.k ≡ n = omega arith in
    kept-end l₀ l.log _ n l.j c.requires (omega arith) (omega arith) (ap (λ (k : ℕ). kept_from l.log n k l.j) (sym e) ∙ l.invariant.1)
    (c.fill.ensures.after (λ y h. h))
