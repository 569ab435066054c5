-- Document 02, item 9, over any sequence of the calls on one capture: every call keeps true totals true (`calls-true`), and so the question's answer is a
-- count over everything before the place (`always_right`), whatever the totals were from a filling on (`right_since_filled`). Assumes nothing.
use Rattle.std.specs.Prelude.{Err, Ok}
use Rattle.station.specs.Numbers.{Checked}
use Prim.Native.Nat.{ℕ}
use mathlib.Core.Path.{◌≡◌, refl}
use mathlib.Core.List.{List, [], ◌∷◌}
use Rattle.line.specs.Line.{capture}
use Rattle.line.specs.Table.{first}
use Rattle.totals.specs.Totals.{true_totals, starts_before, before_place, fill_refusals, fill_checked, filled}
use Rattle.totals.proofs.Claims.{answer_right, filled-true}
use Rattle.counting.specs.Claims.{Lent, TotalsTrue, Call, fills_totals, sends, after_call, after_calls}
use Rattle.counting.proofs.Claims.{sends-true}

-- ---- filling

-- it keeps true ones
fill_keeps : (k : Checked) (os ms ts : List ℕ) → ts ≡ true_totals (capture os ms) → (fill_checked k os ms ts).totals ≡ true_totals (capture os ms)
unfolding fill_checked
fill_keeps (Err x) os ms ts e = e
fill_keeps (Ok _) os ms ts e = refl

-- ---- true totals stay true

pub call_true : (l : Lent) (c : Call) → TotalsTrue l → TotalsTrue (after_call l c)
unfolding TotalsTrue after_call filled
call_true l fills_totals e = fill_keeps (first (fill_refusals l.octets l.marks l.totals)) l.octets l.marks l.totals e
call_true l (sends st c) e = sends-true st l c e

pub calls-true : (l : Lent) (cs : List Call) → TotalsTrue l → TotalsTrue (after_calls l cs)
unfolding after_calls
calls-true l [] e = e
calls-true l (c ∷ cs) e = calls-true (after_call l c) cs (call_true l c e)

-- ---- the question

-- after any sequence of calls, from true totals on
pub always_right : (l : Lent) (cs : List Call) → TotalsTrue l → (place n : ℕ)
    → let x = after_calls l cs in before_place x.octets x.marks place x.totals ≡ Ok n → n ≡ starts_before (capture x.octets x.marks) place
unfolding TotalsTrue
always_right l cs e place n h =
    let x = after_calls l cs in
    answer_right x.octets x.marks place x.totals n (calls-true l cs e) h

-- and, whatever the totals were, from a filling on that is not refused
pub right_since_filled : (l : Lent) (cs : List Call) → (filled l.octets l.marks l.totals).given ≡ Ok tt → (place n : ℕ)
    → let x = after_calls (after_call l fills_totals) cs in
    before_place x.octets x.marks place x.totals ≡ Ok n → n ≡ starts_before (capture x.octets x.marks) place
unfolding TotalsTrue after_call
right_since_filled l cs f place n h = always_right (after_call l fills_totals) cs (filled-true l.octets l.marks l.totals f) place n h
