-- `sizes::add_walk` meets its contract. The invariant: with what is left to add here, the table is whole. The measure is what is left of the capture.
-- Assumes nothing.
use Rattle.std.specs.Prelude.{Some}
use Rattle.std.proofs.Common.{◌≡◌, ℕ, ◌+◌, ◌<◌, ◌≤◌, List, length, get_or, sym, ap, ◌∙◌, subst, ap₂, arith}
use Rattle.line.specs.Limits.{most_symbols}
use Rattle.line.specs.Octets.{between}
use Rattle.line.specs.Line.{capture, find_start, find_control}
use Rattle.line.proofs.Places.{start_found_lem, control_found}
use Rattle.station.specs.declared.Outcome.{Outcome}
use Rattle.table.specs.Entries.{own_entries}
use Rattle.outcome.specs.Outcomes.{frame_of, judged}
use Rattle.outcome.specs.Plain.{Plain}
use Rattle.outcome.proofs.Plain.{plain_is}
use Rattle.outcome.proofs.Rules.{judged-outcome}
use Rattle.receive.proofs.Refusals.{passed}
use Rattle.sizes.specs.declared.SizeTable.{SizeTable}
use Rattle.sizes.specs.Sizes.{with_frame, with_frames}
use Rattle.sizes.specs.Steps.{length_if}
use Rattle.sizes.proofs.Laws.{frame-added, frame-left, add_left, left-start, turn_none, turn_open, turn_ended}
use Rattle.sizes.proofs.add_walk.Invariants.{of}
use Rattle.sizes.proofs.add_walk.Goals as goal
use Rattle.sizes.proofs.add_walk.Goals.{In-Some, In-Some-find_control, Joined-is_plain, then-is_plain, else-is_plain}

-- what each branch knows: where the Start is, and where its run ends; both lie inside the buffers
found-start : (c : In-Some)
    → let a = c.args in find_start (capture a.octets.now a.marks.now) c.loop-start.at ≡ Some c.in-Some.start
found-start c = sym c.find_start.ensures ∙ c.in-Some.is

found_end : (c : In-Some-find_control)
    → let a = c.args in find_control (capture a.octets.now a.marks.now) (c.in-Some.start + 1) ≡ Some c.in-Some-find_control.end
found_end c = sym c.find_control.ensures ∙ c.in-Some-find_control.is

start-inside : (c : In-Some)
    → (c.loop-start.at ≤ c.in-Some.start) × (c.in-Some.start < length c.args.octets.now) × (length c.args.octets.now ≤ most_symbols)
start-inside c =
    let k = passed _ _ _ _ _ _ c.requires in
    let f = start_found_lem _ _ k.even _ _ (found-start c) in
    (f.0, f.1, k.small)

end-inside : (c : In-Some-find_control) → (c.in-Some.start + 1 ≤ c.in-Some-find_control.end) × (c.in-Some-find_control.end < length c.args.octets.now)
end-inside c =
    let e = control_found _ _ (passed _ _ _ _ _ _ c.requires).even _ _ (found_end c) in
    (e.0, e.1)

pub loop-start-init : goal.loop-start-init
loop-start-init c = (left-start _ _ _ _ _ _ c.requires, omega arith)

pub returns-in_default : goal.returns-in_default
returns-in_default c =
    let none = sym c.find_start.ensures ∙ c.in_default.is in
    sym (turn_none _ _ _ _ _ _ none) ∙ c.loop-start.invariant.0

pub overflow_add-from : goal.overflow_add-from
overflow_add-from c = let k = start-inside c in omega arith

pub returns-in_default-find_control : goal.returns-in_default-find_control
returns-in_default-find_control c =
    let unended = sym c.find_control.ensures ∙ c.in_default-find_control.is in
    sym (turn_open _ _ _ _ _ _ _ (found-start (goal.at.returns-in_default-find_control c).In-Some) unended) ∙ c.loop-start.invariant.0

pub slice_bounds-is_plain-count : goal.slice_bounds-is_plain-count
slice_bounds-is_plain-count c = let e = end-inside (goal.at.slice_bounds-is_plain-count c).In-Some-find_control in omega arith

pub slice_bounds-is_plain-start : goal.slice_bounds-is_plain-start
slice_bounds-is_plain-start c = let e = end-inside (goal.at.slice_bounds-is_plain-start c).In-Some-find_control in omega arith

pub slice_bounds-is_plain-end : goal.slice_bounds-is_plain-end
slice_bounds-is_plain-end c = let e = end-inside (goal.at.slice_bounds-is_plain-end c).In-Some-find_control in omega arith

pub bounds-octets-end : goal.bounds-octets-end
bounds-octets-end c = let e = end-inside (goal.at.bounds-octets-end c).In-Some-find_control in omega arith

pub slice_bounds-judge_plain-count : goal.slice_bounds-judge_plain-count
slice_bounds-judge_plain-count c = let e = end-inside (goal.at.slice_bounds-judge_plain-count c).In-Some-find_control in omega arith

pub slice_bounds-judge-count : goal.slice_bounds-judge-count
slice_bounds-judge-count c = let e = end-inside (goal.at.slice_bounds-judge-count c).In-Some-find_control in omega arith

pub slice_bounds-judge-start : goal.slice_bounds-judge-start
slice_bounds-judge-start c = let e = end-inside (goal.at.slice_bounds-judge-start c).In-Some-find_control in omega arith

pub slice_bounds-judge-end : goal.slice_bounds-judge-end
slice_bounds-judge-end c = let e = end-inside (goal.at.slice_bounds-judge-end c).In-Some-find_control in omega arith

pub bounds-octets-end-else-is_plain : goal.bounds-octets-end-else-is_plain
bounds-octets-end-else-is_plain c = let e = end-inside (goal.at.bounds-octets-end-else-is_plain c).In-Some-find_control in omega arith

pub slice_bounds-frame_of-count : goal.slice_bounds-frame_of-count
slice_bounds-frame_of-count c = let e = end-inside (goal.at.slice_bounds-frame_of-count c).In-Some-find_control in omega arith

pub slice_bounds-frame_of-start : goal.slice_bounds-frame_of-start
slice_bounds-frame_of-start c = let e = end-inside (goal.at.slice_bounds-frame_of-start c).In-Some-find_control in omega arith

pub slice_bounds-frame_of-end : goal.slice_bounds-frame_of-end
slice_bounds-frame_of-end c = let e = end-inside (goal.at.slice_bounds-frame_of-end c).In-Some-find_control in omega arith

-- the run, the octet that ended it, its frame, and the table before a turn
abbrev run : Joined-is_plain → List ℕ
run c = between c.args.octets.now (c.in-Some.start + 1) c.in-Some-find_control.end

abbrev by : Joined-is_plain → ℕ
by c = get_or c.args.octets.now c.in-Some-find_control.end 0

abbrev frame : Joined-is_plain → List ℕ
frame c = frame_of (run c)

abbrev was : Joined-is_plain → SizeTable
was c = of c.loop-start.frames c.loop-start.lengths

-- what is judged is what the rules say, by the quick way too
abbrev Ruled : Joined-is_plain → Type 0
Ruled c =
    let a = c.args in
    c.if-is_plain.judged ≡ judged a.s (own_entries a.job a.table.now) (run c) (by c)

ruled : (c : Joined-is_plain) → Ruled c
unfolding between
ruled c =
    let a = c.args in
    elim c.if-is_plain.branch [
      | then-is_plain w ↦
          let p = subst (λ (o : List ℕ). Plain o a.s.limit (run c) (by c)) c.opening-want.ensures (c.is_plain.ensures w.if-is_plain.true) in
          w.judged-is ∙ plain_is a.s (own_entries a.job a.table.now) (run c) (by c) p w.judge_plain-judged.ensures
      | else-is_plain w ↦ w.judged-is ∙ w.judge-judged.ensures
    ]

-- a table x after a turn: if it has what the turn is to add, what is left to add to it is what was left before the turn
turned : (c : Joined-is_plain) (x : SizeTable) → x ≡ with_frames (was c) (length_if c.if-is_plain.judged.outcome (length (frame c)))
    → let a = c.args in
    let own = own_entries a.job a.table.now in
    add_left x a.s own a.octets.now a.marks.now c.in-Some-find_control.end ≡ add_left (was c) a.s own a.octets.now a.marks.now c.loop-start.at
unfolding between
turned c x h =
    let a = c.args in
    let own = own_entries a.job a.table.now in
    let even = (passed _ _ _ _ _ _ c.requires).even in
    let o = judged-outcome _ _ _ _ (ruled c) in
    let k = (goal.at.Joined-is_plain c).In-Some-find_control in
    let e = end-inside k in
    ap (λ (y : SizeTable). add_left y a.s own a.octets.now a.marks.now c.in-Some-find_control.end)
    (h ∙ ap (λ (y : Outcome). with_frames (was c) (length_if y (length (frame c)))) o)
    ∙ sym (turn_ended _ _ _ _ _ _ _ (found-start (goal.at.Joined-is_plain c).In-Some) even c.in-Some-find_control.end (found_end k) e.0 e.1)

pub loop-start-smaller-then-is_sized : goal.loop-start-smaller-then-is_sized
loop-start-smaller-then-is_sized c =
    let e = end-inside (goal.at.loop-start-smaller-then-is_sized c).In-Some-find_control in
    let s = start-inside (goal.at.loop-start-smaller-then-is_sized c).In-Some in
    omega arith

pub loop-start-preserved-then-is_sized : goal.loop-start-preserved-then-is_sized
unfolding between with_frame
loop-start-preserved-then-is_sized c =
    let j = (goal.at.loop-start-preserved-then-is_sized c).Joined-is_plain in
    let p = c.put_frame.ensures in
    let f = c.frame_of-f.ensures in
    let e = end-inside (goal.at.loop-start-preserved-then-is_sized c).In-Some-find_control in (
      turned j _
          (ap₂ of p.frames_after p.octets_after
          ∙ ap (λ (l : List ℕ). with_frame (was j) (length l)) f
          ∙ sym (frame-added (was j) c.if-is_plain.judged.outcome (length (frame j)) (sym c.is_sized.ensures ∙ c.if-is_sized.true)))
          ∙ c.loop-start.invariant.0,
      omega arith,
    )

pub loop-start-smaller : goal.loop-start-smaller
loop-start-smaller c =
    let e = end-inside (goal.at.loop-start-smaller c).In-Some-find_control in
    let s = start-inside (goal.at.loop-start-smaller c).In-Some in
    omega arith

pub loop-start-preserved : goal.loop-start-preserved
loop-start-preserved c =
    let j = (goal.at.loop-start-preserved c).Joined-is_plain in
    let e = end-inside (goal.at.loop-start-preserved c).In-Some-find_control in (
      turned j _ (sym (frame-left (was j) c.if-is_plain.judged.outcome (length (frame j)) (sym c.is_sized.ensures ∙ c.if-is_sized.false)))
          ∙ c.loop-start.invariant.0,
      omega arith,
    )
