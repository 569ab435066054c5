-- `receive::look` meets its contract: four ways out, each by the law of its case. Assumes nothing.
use Rattle.std.specs.Prelude.{Ok, Some}
use Rattle.std.proofs.Common.{rules, ◌≡◌, ◌+◌, ◌-◌, ◌<◌, ◌≤◌, length, sym, ap, ◌∙◌, subst, arith, length-drop, length-take}
use mathlib.Core.Bool.{false≢true}
use Rattle.receive.proofs.Cases.{read-refused, read_none, read_open, read-ended}
use Rattle.line.specs.Limits.{most_symbols}
use Rattle.line.specs.Octets.{between}
use Rattle.line.proofs.Places.{start_found_lem, control_found}
use Rattle.line.specs.Line.{capture, find_start, find_control}
use Rattle.receive.proofs.Refusals.{passed}
use Rattle.table.specs.Entries.{entries_of, own_entries}
use Rattle.control.specs.Control.{frame_way, way_carried}
use Rattle.control.proofs.Ways.{some-way, no_way}
use Rattle.outcome.specs.Outcomes.{frame_of}
use Rattle.outcome.proofs.Rules.{judged-outcome}
use Rattle.receive.proofs.Sights.{sight_read}
use Rattle.receive.specs.declared.Sight.{Sight}
use Rattle.receive.specs.Reading.{read_refusals, read_run}
use Rattle.receive.specs.Steps.{sight_of, read_of, after_sight, Inside}
use Rattle.line.specs.Table.{first}
use borrow.Enum.Refused.{opened}
use Rattle.receive.proofs.look.Goals as goal
use Rattle.receive.proofs.look.Goals.{In-Some, In-Some-find_control, In_default, Joined-o, in-PauseTaken, in_default-o}

-- what each branch knows: the call is not refused, where the Start is, and where its run ends
fine : (c : In_default) → let a = c.args in
    first (read_refusals a.s a.job (entries_of a.table.now) a.octets.now a.marks.now a.place) ≡ Ok tt
fine c = sym c.check_read.ensures ∙ c.in_default.is

found-start : (c : In-Some)
    → let a = c.args in find_start (capture a.octets.now a.marks.now) a.place ≡ Some c.in-Some.start
found-start c = sym c.find_start.ensures ∙ c.in-Some.is

found_end : (c : In-Some-find_control)
    → let a = c.args in find_control (capture a.octets.now a.marks.now) (c.in-Some.start + 1) ≡ Some c.in-Some-find_control.end
found_end c = sym c.find_control.ensures ∙ c.in-Some-find_control.is

-- so both lie inside the buffers, and these are small
start-inside : (c : In-Some) → (length c.args.octets.now ≤ most_symbols) × (c.in-Some.start < length c.args.octets.now)
start-inside c = let k = passed _ _ _ _ _ _ (fine (goal.at.In-Some c).In_default) in (k.small, (start_found_lem _ _ k.even _ _ (found-start c)).1)

end-inside : (c : In-Some-find_control) → (c.in-Some.start + 1 ≤ c.in-Some-find_control.end) × (c.in-Some-find_control.end < length c.args.octets.now)
end-inside c =
    let k = passed _ _ _ _ _ _ (fine (goal.at.In-Some-find_control c).In_default) in
    let e = control_found _ _ k.even _ _ (found_end c) in
    (e.0, e.1)

pub returns-in-Err : goal.returns-in-Err
unfolding read_of after_sight
returns-in-Err c =
    let refused = sym c.check_read.ensures ∙ c.in-Err.is in
    (λ st. sym (read-refused _ _ _ st _ _ _ _ refused), λ h. absurd (false≢true h))

pub returns-in_default-find_start : goal.returns-in_default-find_start
unfolding read_of after_sight
returns-in_default-find_start c =
    let none = sym c.find_start.ensures ∙ c.in_default-find_start.is in
    (λ st. sym (read_none _ _ _ st _ _ _ (fine (goal.at.returns-in_default-find_start c).In_default) none), λ h. absurd (false≢true h))

pub overflow_add-from : goal.overflow_add-from
overflow_add-from c = let k = start-inside c in omega arith

pub returns-in_default-find_control : goal.returns-in_default-find_control
unfolding read_of after_sight
returns-in_default-find_control c =
    let unended = sym c.find_control.ensures ∙ c.in_default-find_control.is in
    (λ st. sym (read_open _ _ _ st _ _ _ (fine (goal.at.returns-in_default-find_control c).In_default) _ (found-start (goal.at.returns-in_default-find_control c).In-Some) unended), λ h. absurd (false≢true h))

pub slice_bounds-judge-count : goal.slice_bounds-judge-count
slice_bounds-judge-count c = let e = end-inside (goal.at.slice_bounds-judge-count c).In-Some-find_control in omega arith

pub slice_bounds-judge-start : goal.slice_bounds-judge-start
slice_bounds-judge-start c = let e = end-inside (goal.at.slice_bounds-judge-start c).In-Some-find_control in omega arith

pub slice_bounds-judge-end : goal.slice_bounds-judge-end
slice_bounds-judge-end c = let e = end-inside (goal.at.slice_bounds-judge-end c).In-Some-find_control in omega arith

pub bounds-octets-end : goal.bounds-octets-end
bounds-octets-end c = let e = end-inside (goal.at.bounds-octets-end c).In-Some-find_control in omega arith

pub slice_bounds-frame_of-count : goal.slice_bounds-frame_of-count
slice_bounds-frame_of-count c = let e = end-inside (goal.at.slice_bounds-frame_of-count c).In-Some-find_control in omega arith

pub slice_bounds-frame_of-start : goal.slice_bounds-frame_of-start
slice_bounds-frame_of-start c = let e = end-inside (goal.at.slice_bounds-frame_of-start c).In-Some-find_control in omega arith

pub slice_bounds-frame_of-end : goal.slice_bounds-frame_of-end
slice_bounds-frame_of-end c = let e = end-inside (goal.at.slice_bounds-frame_of-end c).In-Some-find_control in omega arith

-- where the ways of the outcome meet, the number is the one that a reading carries
abbrev Carried : Joined-o → Type 0
Carried c =
    c.match-o.way' ≡ way_carried c.args.s (own_entries c.args.job c.args.table.now) c.judge-o.result.outcome (frame_of (between c.args.octets.now (c.in-Some.start + 1) c.in-Some-find_control.end))

way-is : (c : Joined-o) → Carried c
unfolding between
way-is c =
    let s = c.args.s in
    let es = own_entries c.args.job c.args.table.now in
    let o = c.judge-o.result.outcome in
    elim c.match-o.branch [
      | in-PauseTaken w ↦
          w.way'-is ∙ w.frame_way-way.ensures ∙ ap (frame_way s es) w.frame_of.ensures ∙ some-way s es _ o (let h = w.in-PauseTaken in search rules)
      | in_default-o w ↦ w.way'-is ∙ no_way s es _ o (let h = w.in_default-o in search (rules, opened))
    ]

pub slice_bounds-look_run-count : goal.slice_bounds-look_run-count
slice_bounds-look_run-count c = let e = end-inside (goal.at.slice_bounds-look_run-count c).In-Some-find_control in omega arith

pub slice_bounds-look_run-start : goal.slice_bounds-look_run-start
slice_bounds-look_run-start c = let e = end-inside (goal.at.slice_bounds-look_run-start c).In-Some-find_control in omega arith

pub slice_bounds-look_run-end : goal.slice_bounds-look_run-end
slice_bounds-look_run-end c = let e = end-inside (goal.at.slice_bounds-look_run-end c).In-Some-find_control in omega arith

pub look_run-requires : goal.look_run-requires
unfolding between
look_run-requires c =
    let e = end-inside (goal.at.look_run-requires c).In-Some-find_control in
    let i = start-inside (goal.at.look_run-requires c).In-Some in
    (omega arith, simp length-take (omega arith))

pub returns : goal.returns
unfolding between sight_of
returns c =
    let a = c.args in
    let os = a.octets.now in
    let es = own_entries a.job a.table.now in
    let from = c.in-Some.start in
    let run = between os (from + 1) c.in-Some-find_control.end in
    let e = end-inside (goal.at.returns c).In-Some-find_control in
    let n : length run ≡ c.in-Some-find_control.end - (from + 1) = simp (length-take, length-drop) (omega arith) in
    let next : from + 1 + length run ≡ c.in-Some-find_control.end = omega arith in (
      λ st. ap (λ (l : Sight). read_of os l st) c.look_run.ensures
          ∙ sight_read a.s es os from run c.judge-o.result.outcome _ st (ap (between os (from + 1)) next) (way-is (goal.at.returns c).Joined-o)
          ∙ ap (read_run a.s es st from run) (judged-outcome _ _ _ _ c.judge-o.ensures)
          ∙ sym (read-ended _ _ _ st _ _ _ (fine (goal.at.returns c).In_default) _ (found-start (goal.at.returns c).In-Some) _ (found_end (goal.at.returns c).In-Some-find_control)),
      subst (Inside os) (sym c.look_run.ensures) (λ h. (omega arith, omega arith)),
    )
