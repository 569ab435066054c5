-- Internal: for a case that antt computes, `unfolding computed` opens every definition of this crate and of those below. It says nothing itself.
use Rattle.receive.specs.Reading.{state_after, handed_part, read_run, read_start, read_found, read_at, read_refusals, read_checked, reading, part_of}
use Rattle.receive.specs.Walk.{readings_from, walk, walk_of, walked, handed_by, handed_out}
use Rattle.outcome.specs.Computed as outcome
use Rattle.flow.specs.Computed as flow

unfoldable pub computed : Unit {0}
unfolding outcome.computed flow.computed state_after handed_part read_run read_start read_found read_at read_refusals read_checked reading part_of readings_from walk walk_of walked handed_by handed_out
computed = tt
