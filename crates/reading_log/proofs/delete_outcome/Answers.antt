-- `log::delete_outcome` meets its contract. What was looked at and what is still to be looked at stay the same together: `left-deleted`, `left_other`.
-- Assumes nothing.
use Prim.Native.Nat.{ℕ, ◌/◌}
use native.Mathlib.Omega.{arith}
use mathlib.Core.Path.{◌≡◌, sym, ap, ap₂, ◌∙◌}
use mathlib.Core.List.{List}
use lib.ListN.{length}
use Rattle.std.specs.Prelude.{Ok}
use Rattle.line.specs.Limits.{record_size}
use Rattle.reading_log.specs.Log.{slot_at, slots, joined}
use Rattle.reading_log.specs.Room.{deleted_all, count_of, numbered}
use Rattle.reading_log.proofs.Searches.{outcome-octet}
use Rattle.reading_log.proofs.Calls.{bad_log_lem, left_bad, good_log, outcome_bad, outcome_good}
use Rattle.reading_log.proofs.Kept.{count_from, left-start, count-start, left_other, left-deleted, left_end, count-end}
use Rattle.reading_log.proofs.Kept.{octet-outcome, octet-other, none-deleted}
use Rattle.reading_log.proofs.delete_outcome.Goals as goal
use Rattle.reading_log.proofs.delete_outcome.Goals.{then-log-at, else-log-at}

pub returns-in_err-checked : goal.returns-in_err-checked
returns-in_err-checked c =
    rw (left_bad _ _ c.from_residual.ensures.1 c.in_err-checked.ensures.0) (sym (outcome_bad _ _ (bad_log_lem _ c.in_err-checked.ensures.1)))

pub returns-then-outcome-eq0 : goal.returns-then-outcome-eq0
returns-then-outcome-eq0 c =
    let l = c.args.log.now in
    let g = c.in_ok-checked.ensures in
    let o = c.if-outcome-eq0.true in
    sym (outcome_good l _ (good_log l g) ∙ ap (λ (i : ℕ). numbered (Ok (count_of i (slots l))) (joined (deleted_all i (slots l)))) o ∙ none-deleted l g)

pub loop-i-init : goal.loop-i-init
loop-i-init c =
    (omega arith, left-start c.args.outcome c.args.log.now, (let e = count-start c.args.outcome c.args.log.now in omega arith))

pub loop-i-preserved : goal.loop-i-preserved
loop-i-preserved c =
    let o = c.args.outcome in
    let n = length c.args.log.now / record_size in
    let l = c.loop-i.log in
    let k = c.loop-i.i in
    let i = c.loop-i.invariant in
    elim c.if-log-at.branch [
      | then-log-at w ↦ (let h = octet-outcome o (slot_at l k) c.if-outcome-eq0.false (outcome-octet l k ∙ w.if-log-at.true) in
          let m = left-deleted o l n k (omega arith) h in
          let d = m.1 in
          let z = i.2 in
          rw (w.log-is, w.deleted-is) (omega arith, m.0 ∙ i.1, omega arith))
      | else-log-at w ↦ (let h = octet-other o (slot_at l k) (λ q. w.if-log-at.false (sym (outcome-octet l k) ∙ q)) in
          let m = left_other o l n k (omega arith) h in
          let d = m.1 in
          let z = i.2 in
          rw (w.log-is, w.deleted-is) (omega arith, m.0 ∙ i.1, omega arith))
    ]

pub returns : goal.returns
returns c =
    let o = c.args.outcome in
    let l₀ = c.args.log.now in
    let l = c.loop-i.log in
    let n = length l₀ / record_size in
    let i = c.loop-i.invariant in
    let g = c.in_ok-checked.ensures in
    let e : c.loop-i.i ≡ n = omega arith in
    let left : l ≡ joined (deleted_all o (slots l₀)) = sym (left_end o l n (omega (arith, g))) ∙ rw e at i.1 in
    let z = count-end o l n in
    let same = ap (count_from o l n) e in
    ap₂ (λ (d : ℕ) (x : List ℕ). numbered (Ok d) x) (let w = i.2 in let q : c.loop-i.deleted ≡ count_of o (slots l₀) = omega arith in q) left
    ∙ sym (outcome_good l₀ o (good_log l₀ g))
