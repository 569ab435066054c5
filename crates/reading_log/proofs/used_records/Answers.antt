-- `log::used_records` meets its contract. What is counted and what is still to be counted stay the same together. Assumes nothing.
use Prim.Native.Nat.{ℕ}
use native.Mathlib.Omega.{arith}
use mathlib.Core.Path.{◌≡◌, sym, ap, ◌∙◌}
use mathlib.Core.List.{List}
use lib.ListN.{length}
use Rattle.std.specs.Prelude.{Ok}
use Rattle.reading_log.specs.Log.{used_ones, used_count}
use Rattle.reading_log.proofs.Used.{used-none}
use Rattle.reading_log.proofs.Searches.{slot_used, slot_unused, slots_end, count-used, count-unused}
use Rattle.reading_log.proofs.Calls.{bad_log_lem, left_bad, good_log, count_bad, count_good}
use Rattle.reading_log.proofs.used_records.Invariants.{ahead}
use Rattle.reading_log.proofs.used_records.Goals as goal
use Rattle.reading_log.proofs.used_records.Goals.{then-log-i-ne0, else-log-i-ne0}

pub returns-in_err-checked : goal.returns-in_err-checked
returns-in_err-checked c =
    rw (left_bad _ _ c.from_residual.ensures.1 c.in_err-checked.ensures.0) (sym (count_bad _ (bad_log_lem _ c.in_err-checked.ensures.1)))

pub loop-i-init : goal.loop-i-init
unfolding used_count
loop-i-init c = (omega arith, omega arith)

pub loop-i-preserved : goal.loop-i-preserved
loop-i-preserved c =
    let l = c.args.log.now in
    let i = c.loop-i.i in
    let inv = c.loop-i.invariant in
    elim c.if-log-i-ne0.branch [
      | then-log-i-ne0 w ↦ (let e = count-used l i (omega arith) (slot_used l i w.if-log-i-ne0.true) in let u = w.used-is in (omega arith, omega arith))
      | else-log-i-ne0 w ↦ (let e = count-unused l i (omega arith) (slot_unused l i w.if-log-i-ne0.false) in let u = w.used-is in (omega arith, omega arith))
    ]

pub returns : goal.returns
returns c =
    let l = c.args.log.now in
    let none : ahead l c.loop-i.i ≡ 0 = ap (λ (x : List (List ℕ)). length (used_ones x)) (slots_end l c.loop-i.i (omega arith)) ∙ ap length used-none in
    ap Ok (let inv = c.loop-i.invariant.1 in let e : c.loop-i.used ≡ used_count l = omega arith in e) ∙ sym (count_good l (good_log l c.in_ok-checked.ensures))
