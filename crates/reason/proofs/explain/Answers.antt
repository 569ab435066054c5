-- `reason::explain` meets its contract: four ways out, each by the law of its case. Assumes nothing.
use Rattle.std.specs.Prelude.{Ok, Some}
use mathlib.Core.Path.{◌≡◌, sym, ap, ap₂, ◌∙◌}
use native.Mathlib.Omega.{arith}
use Prim.Native.Nat.{ℕ, ◌+◌, ◌-◌, ◌≤◌, ◌<◌}
use mathlib.Core.List.{List}
use lib.ListN.{length, get_or, length-take, length-drop}
use Rattle.line.specs.Limits.{most_symbols}
use Rattle.line.specs.Octets.{between}
use Rattle.line.specs.Line.{capture, find_start, find_control}
use Rattle.line.specs.Table.{first}
use Rattle.line.proofs.Places.{start_found_lem, control_found}
use Rattle.station.specs.declared.Outcome.{Outcome}
use Rattle.outcome.specs.declared.Judged.{Judged}
use Rattle.outcome.specs.Outcomes.{outcome, frame_of, check_made, judged}
use Rattle.table.specs.Entries.{entries_of, own_entries}
use Rattle.receive.specs.Reading.{read_refusals}
use Rattle.receive.proofs.Refusals.{passed}
use Rattle.reason.specs.declared.Reason.{Reason}
use Rattle.reason.specs.declared.Why.TheVariants.{Because}
use Rattle.reason.specs.Reasons.{reason_for, reason_of}
use Rattle.reason.proofs.Laws.{explain_refused, explain_none, explain_open, explain_ended}
use Rattle.reason.proofs.explain.Goals as goal
use Rattle.reason.proofs.explain.Goals.{After-judge-j, After-reason_of, In-Some, In-Some-find_control, In_default}

-- what each branch knows: the call is not refused, where the Start is, and where its run ends
fine : (c : In_default) → let a = c.args in
    first (read_refusals a.s a.job (entries_of a.table.now) a.octets.now a.marks.now a.place) ≡ Ok tt
fine c = sym c.check_read.ensures ∙ c.in_default.is

found-start : (c : In-Some)
    → let a = c.args in find_start (capture a.octets.now a.marks.now) a.place ≡ Some c.in-Some.start
found-start c = sym c.find_start.ensures ∙ c.in-Some.is

found_end : (c : In-Some-find_control)
    → let a = c.args in find_control (capture a.octets.now a.marks.now) (c.in-Some.start + 1) ≡ Some c.in-Some-find_control.end
found_end c = sym c.find_control.ensures ∙ c.in-Some-find_control.is

-- so both lie inside the buffers, and these are small
start-inside : (c : In-Some) → (length c.args.octets.now ≤ most_symbols) × (c.in-Some.start < length c.args.octets.now)
start-inside c = let k = passed _ _ _ _ _ _ (fine (goal.at.In-Some c).In_default) in (k.small, (start_found_lem _ _ k.even _ _ (found-start c)).1)

end-inside : (c : In-Some-find_control) → (c.in-Some.start + 1 ≤ c.in-Some-find_control.end) × (c.in-Some-find_control.end < length c.args.octets.now)
end-inside c =
    let k = passed _ _ _ _ _ _ (fine (goal.at.In-Some-find_control c).In_default) in
    let e = control_found _ _ k.even _ _ (found_end c) in
    (e.0, e.1)

-- the run, and the control octet behind it
abbrev run : In-Some-find_control → List ℕ
run c = between c.args.octets.now (c.in-Some.start + 1) c.in-Some-find_control.end

abbrev by : In-Some-find_control → ℕ
by c = get_or c.args.octets.now c.in-Some-find_control.end 0

next-is : (c : In-Some-find_control) → c.in-Some-find_control.end ≡ c.in-Some.start + 1 + length (run c)
unfolding between
next-is c =
    let e = end-inside c in
    let n : length (run c) ≡ c.in-Some-find_control.end - (c.in-Some.start + 1) = simp (length-take, length-drop) (omega arith) in
    omega arith

-- and what is judged is the outcome, with its check
outcome-is : (c : After-judge-j) → let e = (goal.at.After-judge-j c).In-Some-find_control in
    c.judge-j.result.outcome ≡ outcome c.args.s (own_entries c.args.job c.args.table.now) (run e) (by e)
unfolding judged between
outcome-is c = ap (λ (j : Judged). j.outcome) c.judge-j.ensures

check-is : (c : After-judge-j) → let e = (goal.at.After-judge-j c).In-Some-find_control in
    c.judge-j.result.check ≡ check_made c.judge-j.result.outcome (frame_of (run e))
unfolding judged between
check-is c =
    let e = (goal.at.After-judge-j c).In-Some-find_control in
    ap (λ (j : Judged). j.check) c.judge-j.ensures ∙ ap (λ (o : Outcome). check_made o (frame_of (run e))) (sym (outcome-is c))

-- so the reason is that of the run
why-is : (c : After-reason_of) → let e = (goal.at.After-reason_of c).In-Some-find_control in
    c.reason_of.result ≡ reason_of c.args.s (own_entries c.args.job c.args.table.now) c.in-Some.start (run e) (by e)
unfolding reason_of between
why-is c =
    let e = (goal.at.After-reason_of c).In-Some-find_control in
    c.reason_of.ensures ∙ ap (reason_for c.args.s c.in-Some.start (run e) (by e)) (outcome-is (goal.at.After-reason_of c).After-judge-j)

pub returns-in-Err : goal.returns-in-Err
returns-in-Err c = sym (explain_refused _ _ _ _ _ _ _ (sym c.check_read.ensures ∙ c.in-Err.is))

pub returns-in_default-find_start : goal.returns-in_default-find_start
returns-in_default-find_start c =
    let d = (goal.at.returns-in_default-find_start c).In_default in
    sym (explain_none _ _ _ _ _ _ (fine d) (sym c.find_start.ensures ∙ c.in_default-find_start.is))

pub overflow_add-from : goal.overflow_add-from
overflow_add-from c = let k = start-inside (goal.at.overflow_add-from c).In-Some in omega arith

pub returns-in_default-find_control : goal.returns-in_default-find_control
returns-in_default-find_control c =
    let here = goal.at.returns-in_default-find_control c in
    sym (explain_open _ _ _ _ _ _ (fine here.In_default) _ (found-start here.In-Some) (sym c.find_control.ensures ∙ c.in_default-find_control.is))

pub slice_bounds-run-count : goal.slice_bounds-run-count
slice_bounds-run-count c = let e = end-inside (goal.at.slice_bounds-run-count c).In-Some-find_control in omega arith

pub slice_bounds-run-start : goal.slice_bounds-run-start
slice_bounds-run-start c = let e = end-inside (goal.at.slice_bounds-run-start c).In-Some-find_control in omega arith

pub slice_bounds-run-end : goal.slice_bounds-run-end
slice_bounds-run-end c = let e = end-inside (goal.at.slice_bounds-run-end c).In-Some-find_control in omega arith

pub bounds-octets-end : goal.bounds-octets-end
bounds-octets-end c = let e = end-inside (goal.at.bounds-octets-end c).In-Some-find_control in omega arith

pub reason_of-requires : goal.reason_of-requires
unfolding between
reason_of-requires c =
    let e = end-inside (goal.at.reason_of-requires c).In-Some-find_control in
    let k = start-inside (goal.at.reason_of-requires c).In-Some in
    (omega arith, simp length-take (omega arith), check-is (goal.at.reason_of-requires c).After-judge-j)

pub returns : goal.returns
returns c =
    let here = goal.at.returns c in
    let e = here.In-Some-find_control in
    ap₂ (λ (r : Reason) (n : ℕ). record { answer = Because r; start = c.in-Some.start; next = n }) (why-is here.After-reason_of) (next-is e)
    ∙ sym (explain_ended _ _ _ _ _ _ (fine here.In_default) _ (found-start here.In-Some) _ (found_end e))
