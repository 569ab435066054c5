-- `receive::state_after` meets its contract: counted, with the timers set or left as they were, or not counted. Assumes nothing.
use Rattle.std.proofs.Common.{rules, ℕ, ◌+◌, ◌≤◌, List, length, sym, ap, ◌∙◌, ap₂, arith}
use Rattle.line.specs.Octets.{between}
use Rattle.flow.proofs.Stays.{stays}
use Rattle.flow.specs.Timers.{timers_after}
use Rattle.receive.specs.Reading.{state_after}
use Rattle.receive.specs.Steps.{after_sight}
use Rattle.receive.specs.Values.{is_counted}
use Rattle.receive.proofs.Sights.{at-state, not-counted}
use borrow.Enum.Refused.{opened}
use Rattle.receive.proofs.state_after.Goals as goal
use Rattle.receive.proofs.state_after.Goals.{In-Counted}

-- the run of a Start that is counted lies inside the octets
inside : (c : In-Counted) → let a = c.args in (a.seen.start + 1 ≤ a.seen.next) × (a.seen.next ≤ length a.octets.now)
inside c = c.requires (ap is_counted c.in-Counted.is)

pub overflow_add-from : goal.overflow_add-from
overflow_add-from c = let k = inside (goal.at.overflow_add-from c).In-Counted in omega arith

pub slice_bounds-frame_of-count : goal.slice_bounds-frame_of-count
slice_bounds-frame_of-count c = let k = inside (goal.at.slice_bounds-frame_of-count c).In-Counted in omega arith

pub returns-then-sets_timers : goal.returns-then-sets_timers
unfolding after_sight state_after between
returns-then-sets_timers c =
    let o = c.in-Counted.o in
    let ts = c.args.state.timers in
    rw c.in-Counted.is
    (ap₂ (at-state c.args.state.deficit) c.count.ensures (c.timers_after-set.ensures ∙ ap (λ (f : List ℕ). timers_after o f ts) c.frame_of-f.ensures))

pub returns-else-sets_timers : goal.returns-else-sets_timers
unfolding after_sight state_after
returns-else-sets_timers c =
    rw c.in-Counted.is (ap₂ (at-state c.args.state.deficit) c.count.ensures (stays _ _ _ (sym c.sets_timers.ensures ∙ c.if-sets_timers.false)))

pub returns-in_default : goal.returns-in_default
returns-in_default c = let a = c.args in not-counted a.octets.now a.seen a.state (let h = c.in_default in search (rules, opened))
