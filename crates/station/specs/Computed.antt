-- Internal: for a case that antt computes, `unfolding computed` opens every definition of this crate. It says nothing itself.
use Rattle.station.specs.Station.{counter, counted, total, screen_of, fresh, is_group, bad_settings, bad_buffers, bad_place, bad_start, high_deficit}

unfoldable pub computed : Unit {0}
unfolding counter counted total screen_of fresh is_group bad_settings bad_buffers bad_place bad_start high_deficit
computed = tt
