-- Internal: for a case that antt computes, `unfolding computed` opens every definition of this crate and of those below. It says nothing itself.
use Rattle.flow.specs.Timers.{quanta_at, timer, set_all, set_named, timers_after, sets_timers, lowered}
use Rattle.fields.specs.Computed as fields
use Rattle.station.specs.Computed as station

unfoldable pub computed : Unit {0}
unfolding fields.computed station.computed quanta_at timer set_all set_named timers_after sets_timers lowered
computed = tt
