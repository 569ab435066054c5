-- `receive::walk_on` meets its contract. The invariant: what is left of the walk here is the whole walk. The measure is what is left of the capture.
-- Assumes nothing.
use Rattle.std.specs.Prelude.{Some}
use Rattle.std.proofs.Common.{◌≡◌, ℕ, ◌+◌, ◌<◌, ◌≤◌, List, length, get_or, sym, ap, ◌∙◌, subst, ap₂, arith}
use Rattle.line.specs.Limits.{most_symbols}
use Rattle.line.specs.Octets.{between}
use Rattle.line.specs.Line.{capture, find_start, find_control}
use Rattle.receive.proofs.Refusals.{passed}
use Rattle.receive.proofs.Sights.{at-state}
use Rattle.flow.proofs.Stays.{stays}
use Rattle.receive.proofs.Walks.{left, turn_none, turn_open, turn_ended, plain_stays, walked_from}
use Rattle.receive.specs.Reading.{state_after}
use Rattle.line.proofs.Places.{start_found_lem, control_found}
use Rattle.table.specs.Entries.{own_entries}
use Rattle.outcome.specs.Outcomes.{outcome, frame_of}
use Rattle.outcome.specs.Plain.{Plain}
use Rattle.outcome.proofs.Plain.{plain_is}
use Rattle.outcome.proofs.Rules.{judged-outcome}
use Rattle.station.specs.declared.Outcome.{Outcome}
use Rattle.station.specs.declared.Slots.{Slots}
use Rattle.station.specs.Station.{counted}
use Rattle.flow.specs.Timers.{timers_after}
use Rattle.receive.proofs.walk_on.Goals as goal
use Rattle.receive.proofs.walk_on.Goals.{In-Some, In-Some-find_control, Joined-is_plain, then-is_plain, else-is_plain+then-sets_timers, else-is_plain+else-sets_timers}

-- what each branch knows: where the Start is, and where its run ends; both lie inside the buffers
found-start : (c : In-Some)
    → let a = c.args in find_start (capture a.octets.now a.marks.now) c.loop-start.at ≡ Some c.in-Some.start
found-start c = sym c.find_start.ensures ∙ c.in-Some.is

found_end : (c : In-Some-find_control)
    → let a = c.args in find_control (capture a.octets.now a.marks.now) (c.in-Some.start + 1) ≡ Some c.in-Some-find_control.end
found_end c = sym c.find_control.ensures ∙ c.in-Some-find_control.is

start-inside : (c : In-Some)
    → (c.loop-start.at ≤ c.in-Some.start) × (c.in-Some.start < length c.args.octets.now) × (length c.args.octets.now ≤ most_symbols)
start-inside c =
    let k = passed _ _ _ _ _ _ c.requires in
    let f = start_found_lem _ _ k.even _ _ (found-start c) in
    (f.0, f.1, k.small)

end-inside : (c : In-Some-find_control) → (c.in-Some.start + 1 ≤ c.in-Some-find_control.end) × (c.in-Some-find_control.end < length c.args.octets.now)
end-inside c =
    let e = control_found _ _ (passed _ _ _ _ _ _ c.requires).even _ _ (found_end c) in
    (e.0, e.1)

pub loop-start-init : goal.loop-start-init
loop-start-init c = (walked_from _ _ _ _ _ _ c.requires, omega arith, omega arith)

pub returns-in_default : goal.returns-in_default
returns-in_default c =
    let none = sym c.find_start.ensures ∙ c.in_default.is in
    sym (turn_none _ _ _ _ _ _ _ none) ∙ c.loop-start.invariant.0

pub overflow_add-from : goal.overflow_add-from
overflow_add-from c = let k = start-inside c in omega arith

pub returns-in_default-find_control : goal.returns-in_default-find_control
returns-in_default-find_control c =
    let unended = sym c.find_control.ensures ∙ c.in_default-find_control.is in
    sym (turn_open _ _ _ _ _ _ _ _ (found-start (goal.at.returns-in_default-find_control c).In-Some) unended) ∙ c.loop-start.invariant.0

pub slice_bounds-is_plain-count : goal.slice_bounds-is_plain-count
slice_bounds-is_plain-count c = let e = end-inside (goal.at.slice_bounds-is_plain-count c).In-Some-find_control in omega arith

pub slice_bounds-is_plain-start : goal.slice_bounds-is_plain-start
slice_bounds-is_plain-start c = let e = end-inside (goal.at.slice_bounds-is_plain-start c).In-Some-find_control in omega arith

pub slice_bounds-is_plain-end : goal.slice_bounds-is_plain-end
slice_bounds-is_plain-end c = let e = end-inside (goal.at.slice_bounds-is_plain-end c).In-Some-find_control in omega arith

pub bounds-octets-end : goal.bounds-octets-end
bounds-octets-end c = let e = end-inside (goal.at.bounds-octets-end c).In-Some-find_control in omega arith

pub slice_bounds-judge_plain-count : goal.slice_bounds-judge_plain-count
slice_bounds-judge_plain-count c = let e = end-inside (goal.at.slice_bounds-judge_plain-count c).In-Some-find_control in omega arith

pub slice_bounds-judge-count : goal.slice_bounds-judge-count
slice_bounds-judge-count c = let e = end-inside (goal.at.slice_bounds-judge-count c).In-Some-find_control in omega arith

pub slice_bounds-judge-start : goal.slice_bounds-judge-start
slice_bounds-judge-start c = let e = end-inside (goal.at.slice_bounds-judge-start c).In-Some-find_control in omega arith

pub slice_bounds-judge-end : goal.slice_bounds-judge-end
slice_bounds-judge-end c = let e = end-inside (goal.at.slice_bounds-judge-end c).In-Some-find_control in omega arith

pub bounds-octets-end-else-is_plain : goal.bounds-octets-end-else-is_plain
bounds-octets-end-else-is_plain c = let e = end-inside (goal.at.bounds-octets-end-else-is_plain c).In-Some-find_control in omega arith

pub slice_bounds-frame_of-count : goal.slice_bounds-frame_of-count
slice_bounds-frame_of-count c = let e = end-inside (goal.at.slice_bounds-frame_of-count c).In-Some-find_control in omega arith

pub slice_bounds-frame_of-start : goal.slice_bounds-frame_of-start
slice_bounds-frame_of-start c = let e = end-inside (goal.at.slice_bounds-frame_of-start c).In-Some-find_control in omega arith

pub slice_bounds-frame_of-end : goal.slice_bounds-frame_of-end
slice_bounds-frame_of-end c = let e = end-inside (goal.at.slice_bounds-frame_of-end c).In-Some-find_control in omega arith

pub overflow_add-n : goal.overflow_add-n
overflow_add-n c = let e = end-inside (goal.at.overflow_add-n c).In-Some-find_control in let k = start-inside (goal.at.overflow_add-n c).In-Some in omega arith

pub loop-start-smaller : goal.loop-start-smaller
loop-start-smaller c = let e = end-inside (goal.at.loop-start-smaller c).In-Some-find_control in let k = start-inside (goal.at.loop-start-smaller c).In-Some in omega arith

-- counters and timers after a turn, by the quick way and by the rules
abbrev Moved : Joined-is_plain → Type 0
Moved c =
    let a = c.args in
    let run = between a.octets.now (c.in-Some.start + 1) c.in-Some-find_control.end in
    let o = outcome a.s (own_entries a.job a.table.now) run (get_or a.octets.now c.in-Some-find_control.end 0) in
    (c.if-is_plain.counters ≡ counted o c.loop-start.counters) × (c.if-is_plain.timers ≡ timers_after o (frame_of run) c.loop-start.timers)

moved : (c : Joined-is_plain) → Moved c
unfolding between
moved c =
    let a = c.args in
    let own = own_entries a.job a.table.now in
    let run = between a.octets.now (c.in-Some.start + 1) c.in-Some-find_control.end in
    let by = get_or a.octets.now c.in-Some-find_control.end 0 in
    let cs = c.loop-start.counters in
    let ts = c.loop-start.timers in
    let count : (x : Outcome) → x ≡ outcome a.s own run by → counted x cs ≡ counted (outcome a.s own run by) cs
    = λ x e. ap (λ (o : Outcome). counted o cs) e in
    elim c.if-is_plain.branch [
      | then-is_plain w ↦
          let p = subst (λ (o : List ℕ). Plain o a.s.limit run by) c.opening-want.ensures (c.is_plain.ensures w.if-is_plain.true) in
          let o = judged-outcome a.s own run by (plain_is a.s own run by p w.judge_plain-judged.ensures) in
          (w.counters-is ∙ w.count.ensures ∙ count _ o, w.timers-is ∙ plain_stays a.s own run by p ts)
      | else-is_plain+then-sets_timers w ↦
          let o = judged-outcome a.s own run by w.judge-judged.ensures in (
            w.counters-is ∙ w.count-else-is_plain.ensures ∙ count _ o,
            w.timers-is ∙ w.timers_after-set.ensures ∙ ap₂ (λ (x : Outcome) (f : List ℕ). timers_after x f ts) o w.frame_of-f.ensures,
          )
      | else-is_plain+else-sets_timers w ↦
          let o = judged-outcome a.s own run by w.judge-judged.ensures in (
            w.counters-is ∙ w.count-else-is_plain.ensures ∙ count _ o,
            w.timers-is ∙ stays _ _ _ (sym w.sets_timers.ensures ∙ w.if-sets_timers.false) ∙ ap (λ (x : Outcome). timers_after x (frame_of run) ts) o,
          )
    ]

pub loop-start-preserved : goal.loop-start-preserved
unfolding between state_after
loop-start-preserved c =
    let a = c.args in
    let own = own_entries a.job a.table.now in
    let even = (passed _ _ _ _ _ _ c.requires).even in
    let s = start-inside (goal.at.loop-start-preserved c).In-Some in
    let e = end-inside (goal.at.loop-start-preserved c).In-Some-find_control in (
      ap₂ (λ (cs : List ℕ) (ts : List Slots). left a.s own a.octets.now a.marks.now (c.loop-start.n + 1) (at-state a.state.deficit cs ts) c.in-Some-find_control.end)
          (moved c).0 (moved c).1
          ∙ sym (turn_ended _ _ _ _ _ _ _ _ (found-start (goal.at.loop-start-preserved c).In-Some) even c.in-Some-find_control.end (found_end (goal.at.loop-start-preserved c).In-Some-find_control) e.0 e.1)
          ∙ c.loop-start.invariant.0,
      omega arith,
      omega arith,
    )
