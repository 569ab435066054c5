-- `logging::keep_on` meets its contract. The invariant: what is left of the walk here is the whole walk, and there are k records up to the last used one.
-- The measure is what is left of the capture. Assumes nothing.
use Rattle.std.specs.Prelude.{Ok, Some}
use Prim.Native.Nat.{ℕ, ◌+◌, ◌-◌, ◌*◌, ◌/◌, ◌≤◌, ◌<◌}
use native.Mathlib.Omega.{arith}
use mathlib.Core.Path.{◌≡◌, refl, sym, ap, ap₂, ◌∙◌, subst}
use mathlib.Core.List.{List}
use lib.ListN.{length, get_or}
use Rattle.line.specs.Limits.{most_symbols, record_size, table_entries}
use Rattle.line.specs.Line.{capture, find_start, find_control, overwrite}
use Rattle.line.specs.Octets.{between}
use Rattle.line.specs.Table.{first}
use Rattle.line.proofs.Places.{start_found_lem, control_found}
use Rattle.station.specs.declared.Outcome.{Outcome}
use Rattle.station.specs.declared.Slots.{Slots}
use Rattle.station.specs.Station.{counted}
use Rattle.flow.specs.Timers.{timers_after}
use Rattle.flow.proofs.Stays.{stays}
use Rattle.table.specs.Entries.{entries_of, own_entries}
use Rattle.table.proofs.Entries.{entries_sixteen}
use Rattle.outcome.specs.Outcomes.{outcome, frame_of}
use Rattle.outcome.specs.Plain.{Plain}
use Rattle.outcome.proofs.Plain.{plain_is}
use Rattle.outcome.proofs.Rules.{judged-outcome}
use Rattle.reading_log.specs.declared.Record.{Record}
use Rattle.reading_log.specs.Log.{octets_of_record, extent, roomy}
use Rattle.reading_log.specs.Claims.{IsMultiple}
use Rattle.reading_log.proofs.Records.{length_record}
use Rattle.reading_log.proofs.Written.{length-written}
use Rattle.reading_log.proofs.Filled.{length-roomy, room-full, room-left}
use Rattle.receive.specs.Reading.{read_refusals, state_after}
use Rattle.receive.proofs.Refusals.{passed, still_fine}
use Rattle.receive.proofs.Sights.{at-state}
use Rattle.logging.specs.declared.LogEnd.TheVariants.{Full}
use Rattle.logging.specs.Steps.{record_of_frame}
use Rattle.logging.specs.Walks.{stopped, keep_from}
use Rattle.logging.proofs.Readings.{run_length}
use Rattle.logging.proofs.Refusals.{keep_fine}
use Rattle.logging.proofs.Turns.{walk_fine}
use Rattle.logging.proofs.Loops.{loop_none, loop_open, loop_full, loop_kept, loop_next}
use Rattle.logging.proofs.keep_on.Goals as goal
use Rattle.logging.proofs.keep_on.Goals.{After-room-k, After-write_record, At-loop-start, Else-k-records, In-Some, In-Some-find_control, Joined-sets_timers, else-is_plain, else-sets_timers, then-is_plain, then-sets_timers}

-- what each turn knows: it is not refused, the log's length is a multiple of 16, and readings are left
fine : (c : At-loop-start)
    → let a = c.args in first (read_refusals a.s a.job (entries_of a.table.now) a.octets.now a.marks.now c.loop-start.at) ≡ Ok tt
fine c = still_fine _ _ _ _ _ _ _ (keep_fine _ _ _ _ _ _ _ c.requires).0 c.loop-start.invariant.2

good : (c : At-loop-start) → IsMultiple c.loop-start.log
good c = let g = (keep_fine _ _ _ _ _ _ _ c.requires).1 in let e = c.loop-start.invariant.3 in omega arith

more : (c : At-loop-start) → 0 < length c.args.octets.now + 1 - c.loop-start.n
more c = let a = c.loop-start.invariant.1 in let b = c.loop-start.invariant.2 in omega arith

-- where the Start is, and where its run ends; both lie inside the buffers
found-start : (c : In-Some)
    → let a = c.args in find_start (capture a.octets.now a.marks.now) c.loop-start.at ≡ Some c.in-Some.start
found-start c = sym c.find_start.ensures ∙ c.in-Some.is

found_end : (c : In-Some-find_control)
    → let a = c.args in find_control (capture a.octets.now a.marks.now) (c.in-Some.start + 1) ≡ Some c.in-Some-find_control.end
found_end c = sym c.find_control.ensures ∙ c.in-Some-find_control.is

start-inside : (c : In-Some)
    → (c.loop-start.at ≤ c.in-Some.start) × (c.in-Some.start < length c.args.octets.now) × (length c.args.octets.now ≤ most_symbols)
start-inside c =
    let k = passed _ _ _ _ _ _ (fine (goal.at.In-Some c).At-loop-start) in
    let f = start_found_lem _ _ k.even _ _ (found-start c) in
    (f.0, f.1, k.small)

end-inside : (c : In-Some-find_control)
    → (c.in-Some.start + 1 ≤ c.in-Some-find_control.end) × (c.in-Some-find_control.end < length c.args.octets.now)
end-inside c =
    let e = control_found _ _ (passed _ _ _ _ _ _ (fine (goal.at.In-Some-find_control c).At-loop-start)).even _ _ (found_end c) in
    (e.0, e.1)

-- where the log is not full it has the record behind the last used one
inside : (c : Else-k-records) → c.room-k.result < length c.loop-start.log / record_size
inside c =
    room-left c.loop-start.log (good (goal.at.Else-k-records c).At-loop-start) c.room-k.result c.room-k.ensures.1 (λ e. c.if-k-records.false (e ∙ ap (λ (m : ℕ). m / record_size) c.loop-start.invariant.3))

pub loop-start-init : goal.loop-start-init
loop-start-init c =
    let a = c.args in
    let os = a.octets.now in
    let e : length os + 1 - 0 ≡ length os + 1 = omega arith in
    let b = (passed _ _ _ _ _ _ (keep_fine _ _ _ _ _ _ _ c.requires).0).inside in (
      ap (λ (m : ℕ). keep_from m a.s a.job (entries_of a.table.now) a.state os a.marks.now a.place 0 a.log.now) e
          ∙ sym (walk_fine _ _ _ _ _ _ _ _ c.requires),
      omega arith,
      omega arith,
      refl,
      c.extent_of-k.ensures,
    )

pub returns-in_default : goal.returns-in_default
returns-in_default c =
    let none = sym c.find_start.ensures ∙ c.in_default.is in
    sym (loop_none _ _ _ _ _ _ (fine (goal.at.returns-in_default c).At-loop-start) _ _ _ _ (more (goal.at.returns-in_default c).At-loop-start) none) ∙ c.loop-start.invariant.0

pub overflow_add-from : goal.overflow_add-from
overflow_add-from c = let k = start-inside c in omega arith

pub returns-in_default-find_control : goal.returns-in_default-find_control
returns-in_default-find_control c =
    let unended = sym c.find_control.ensures ∙ c.in_default-find_control.is in
    sym (loop_open _ _ _ _ _ _ (fine (goal.at.returns-in_default-find_control c).At-loop-start) _ _ _ _ (more (goal.at.returns-in_default-find_control c).At-loop-start) _ (found-start (goal.at.returns-in_default-find_control c).In-Some) unended) ∙ c.loop-start.invariant.0

pub room-k-requires : goal.room-k-requires
room-k-requires c = (good (goal.at.room-k-requires c).At-loop-start, c.loop-start.invariant.4)

pub returns-then-k-records : goal.returns-then-k-records
returns-then-k-records c =
    let i = c.loop-start.invariant in
    let h : extent (roomy c.loop-start.log) ≡ length c.loop-start.log / record_size = sym c.room-k.ensures.1 ∙ c.if-k-records.true ∙ ap (λ (m : ℕ). m / record_size) (sym i.3) in
    ap (stopped Full (at-state c.args.state.deficit c.loop-start.counters c.loop-start.timers) c.loop-start.at c.loop-start.n)
    (c.room-k.ensures.0 ∙ (room-full c.loop-start.log (good (goal.at.returns-then-k-records c).At-loop-start) h).0)
    ∙ sym (loop_full _ _ _ _ _ _ (fine (goal.at.returns-then-k-records c).At-loop-start) _ (found-start (goal.at.returns-then-k-records c).In-Some) _ (found_end (goal.at.returns-then-k-records c).In-Some-find_control) _ _ _ _ (more (goal.at.returns-then-k-records c).At-loop-start) (good (goal.at.returns-then-k-records c).At-loop-start) h)
    ∙ i.0

pub slice_bounds-is_plain-count : goal.slice_bounds-is_plain-count
slice_bounds-is_plain-count c = let e = end-inside (goal.at.slice_bounds-is_plain-count c).In-Some-find_control in omega arith

pub slice_bounds-is_plain-start : goal.slice_bounds-is_plain-start
slice_bounds-is_plain-start c = let e = end-inside (goal.at.slice_bounds-is_plain-start c).In-Some-find_control in omega arith

pub slice_bounds-is_plain-end : goal.slice_bounds-is_plain-end
slice_bounds-is_plain-end c = let e = end-inside (goal.at.slice_bounds-is_plain-end c).In-Some-find_control in omega arith

pub bounds-octets-end : goal.bounds-octets-end
bounds-octets-end c = let e = end-inside (goal.at.bounds-octets-end c).In-Some-find_control in omega arith

pub slice_bounds-judge_plain-count : goal.slice_bounds-judge_plain-count
slice_bounds-judge_plain-count c = let e = end-inside (goal.at.slice_bounds-judge_plain-count c).In-Some-find_control in omega arith

pub slice_bounds-judge-count : goal.slice_bounds-judge-count
slice_bounds-judge-count c = let e = end-inside (goal.at.slice_bounds-judge-count c).In-Some-find_control in omega arith

pub slice_bounds-judge-start : goal.slice_bounds-judge-start
slice_bounds-judge-start c = let e = end-inside (goal.at.slice_bounds-judge-start c).In-Some-find_control in omega arith

pub slice_bounds-judge-end : goal.slice_bounds-judge-end
slice_bounds-judge-end c = let e = end-inside (goal.at.slice_bounds-judge-end c).In-Some-find_control in omega arith

pub bounds-octets-end-else-is_plain : goal.bounds-octets-end-else-is_plain
bounds-octets-end-else-is_plain c = let e = end-inside (goal.at.bounds-octets-end-else-is_plain c).In-Some-find_control in omega arith

pub slice_bounds-frame_of-count : goal.slice_bounds-frame_of-count
slice_bounds-frame_of-count c = let e = end-inside (goal.at.slice_bounds-frame_of-count c).In-Some-find_control in omega arith

pub slice_bounds-frame_of-start : goal.slice_bounds-frame_of-start
slice_bounds-frame_of-start c = let e = end-inside (goal.at.slice_bounds-frame_of-start c).In-Some-find_control in omega arith

pub slice_bounds-frame_of-end : goal.slice_bounds-frame_of-end
slice_bounds-frame_of-end c = let e = end-inside (goal.at.slice_bounds-frame_of-end c).In-Some-find_control in omega arith

pub slice_bounds-record_of_run-count : goal.slice_bounds-record_of_run-count
slice_bounds-record_of_run-count c = let e = end-inside (goal.at.slice_bounds-record_of_run-count c).In-Some-find_control in omega arith

pub slice_bounds-record_of_run-start : goal.slice_bounds-record_of_run-start
slice_bounds-record_of_run-start c = let e = end-inside (goal.at.slice_bounds-record_of_run-start c).In-Some-find_control in omega arith

pub slice_bounds-record_of_run-end : goal.slice_bounds-record_of_run-end
slice_bounds-record_of_run-end c = let e = end-inside (goal.at.slice_bounds-record_of_run-end c).In-Some-find_control in omega arith

pub record_of_run-requires : goal.record_of_run-requires
unfolding between
record_of_run-requires c =
    let e = end-inside (goal.at.record_of_run-requires c).In-Some-find_control in
    let s = start-inside (goal.at.record_of_run-requires c).In-Some in
    let n = run_length c.args.octets.now (c.in-Some.start + 1) c.in-Some-find_control.end (omega arith) in
    omega arith

same_size : (c : After-room-k) → length c.room-k.new.log ≡ length c.loop-start.log
same_size c = ap length c.room-k.ensures.0 ∙ length-roomy c.loop-start.log (good (goal.at.After-room-k c).At-loop-start)

pub write_record-requires : goal.write_record-requires
write_record-requires c = let h = inside (goal.at.write_record-requires c).Else-k-records in let e = same_size (goal.at.write_record-requires c).After-room-k in omega arith

pub overflow_add-k : goal.overflow_add-k
overflow_add-k c =
    let h = inside (goal.at.overflow_add-k c).Else-k-records in
    let i = c.loop-start.invariant.3 in
    let g = c.type_inv.log in
    omega arith

pub overflow_add-n : goal.overflow_add-n
overflow_add-n c =
    let e = end-inside (goal.at.overflow_add-n c).In-Some-find_control in
    let s = start-inside (goal.at.overflow_add-n c).In-Some in
    let i = c.loop-start.invariant.1 in
    omega arith

pub loop-start-smaller : goal.loop-start-smaller
loop-start-smaller c = let e = end-inside (goal.at.loop-start-smaller c).In-Some-find_control in let s = start-inside (goal.at.loop-start-smaller c).In-Some in omega arith

-- the run, what ended it, its outcome and the record of its frame
abbrev run : Joined-sets_timers → List ℕ
run c = between c.args.octets.now (c.in-Some.start + 1) c.in-Some-find_control.end

abbrev by : Joined-sets_timers → ℕ
by c = get_or c.args.octets.now c.in-Some-find_control.end 0

abbrev becomes : Joined-sets_timers → Outcome
becomes c = let a = c.args in outcome a.s (own_entries a.job a.table.now) (run c) (by c)

abbrev recorded : Joined-sets_timers → Record
recorded c = let a = c.args in record_of_frame a.s (own_entries a.job a.table.now) c.in-Some.start (frame_of (run c)) (becomes c)

-- by the quick way and by the rules
outcome-is : (c : Joined-sets_timers) → c.if-is_plain.judged.outcome ≡ becomes c
unfolding between
outcome-is c =
    let a = c.args in
    let own = own_entries a.job a.table.now in
    elim c.if-is_plain.branch [
      | then-is_plain w ↦
          let p = subst (λ (o : List ℕ). Plain o a.s.limit (run c) (by c)) c.opening-want.ensures (c.is_plain.ensures w.if-is_plain.true) in
          judged-outcome a.s own (run c) (by c) (w.judged-is ∙ plain_is a.s own (run c) (by c) p w.judge_plain-judged.ensures)
      | else-is_plain w ↦ judged-outcome a.s own (run c) (by c) (w.judged-is ∙ w.judge-judged.ensures)
    ]

-- the counters and the timers after a turn, these set or left as they were
counters-now : (c : Joined-sets_timers) → c.count.new.counters ≡ counted (becomes c) c.loop-start.counters
counters-now c = c.count.ensures ∙ ap (λ (x : Outcome). counted x c.loop-start.counters) (outcome-is c)

abbrev Moved : Joined-sets_timers → Outcome → Type 0
Moved c o = c.if-sets_timers.timers ≡ timers_after o (frame_of (run c)) c.loop-start.timers

moved : (c : Joined-sets_timers) → Moved c c.if-is_plain.judged.outcome
unfolding between
moved c =
    let o = c.if-is_plain.judged.outcome in
    let was = c.loop-start.timers in
    elim c.if-sets_timers.branch [
      | then-sets_timers w ↦ w.timers-is ∙ w.timers_after-set.ensures ∙ ap (λ (l : List ℕ). timers_after o l was) w.frame_of-f.ensures
      | else-sets_timers w ↦ w.timers-is ∙ stays _ _ _ (sym c.sets_timers.ensures ∙ w.if-sets_timers.false)
    ]

timers-now : (c : Joined-sets_timers) → Moved c (becomes c)
timers-now c = moved c ∙ ap (λ (x : Outcome). timers_after x (frame_of (run c)) c.loop-start.timers) (outcome-is c)

-- the log after a turn
log-now : (c : After-write_record)
    → c.write_record.new.log
    ≡ overwrite (roomy c.loop-start.log) (record_size * c.room-k.result) (octets_of_record (recorded (goal.at.After-write_record c).Joined-sets_timers))
unfolding between
log-now c =
    let j = (goal.at.After-write_record c).Joined-sets_timers in
    let a = c.args in
    c.write_record.ensures
    ∙ ap₂ (λ (m : List ℕ) (x : Record). overwrite m (record_size * c.room-k.result) (octets_of_record x))
    c.room-k.ensures.0
    (c.record_of_run.ensures ∙ ap (record_of_frame a.s (own_entries a.job a.table.now) c.in-Some.start (frame_of (run j))) (outcome-is j))

pub loop-start-preserved : goal.loop-start-preserved
unfolding state_after
loop-start-preserved c =
    let j = (goal.at.loop-start-preserved c).Joined-sets_timers in
    let l = (goal.at.loop-start-preserved c).At-loop-start in
    let a = c.args in
    let at = c.loop-start in
    let octets = a.octets.now in
    let end = c.in-Some-find_control.end in
    let es = entries_of a.table.now in
    let i = at.invariant in
    let x = recorded j in
    let s = start-inside (goal.at.loop-start-preserved c).In-Some in
    let e = end-inside (goal.at.loop-start-preserved c).In-Some-find_control in
    let r = c.room-k in
    let g = inside (goal.at.loop-start-preserved c).Else-k-records in
    let size = length-roomy at.log (good l) in
    let m : List ℕ = overwrite (roomy at.log) (record_size * r.result) (octets_of_record x) in
    let same = log-now (goal.at.loop-start-preserved c).After-write_record in
    let few : length es ≤ table_entries = omega (arith, entries_sixteen a.table.now) in
    let start_is = found-start (goal.at.loop-start-preserved c).In-Some in
    let end_is = found_end (goal.at.loop-start-preserved c).In-Some-find_control in
    let fuel : length octets + 1 - (at.n + 1) ≡ length octets + 1 - at.n - 1 = omega arith in (
      ap₂ (λ (b : ℕ) (y : List ℕ).
          keep_from b a.s a.job es (at-state a.state.deficit c.count.new.counters c.if-sets_timers.timers) octets a.marks.now end (at.n + 1) y)
          fuel same
          ∙ ap₂ (λ (cs : List ℕ) (ts : List Slots).
          keep_from (length octets + 1 - at.n - 1) a.s a.job es (at-state a.state.deficit cs ts) octets a.marks.now end (at.n + 1) m)
          (counters-now j) (timers-now j)
          ∙ sym (loop_kept _ _ _ _ _ _ (fine l) _ start_is _ end_is _ _ _ _ (more l) (good l) _ r.ensures.1 g)
          ∙ i.0,
      omega arith,
      omega arith,
      ap length same ∙ length-written (roomy at.log) r.result _ (length_record x) (omega arith) ∙ size ∙ i.3,
      sym (loop_next _ _ _ _ _ _ (fine l) _ start_is _ end_is few (roomy at.log) r.result (omega arith) r.ensures.1) ∙ ap extent (sym same),
    )
