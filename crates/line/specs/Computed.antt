-- Internal: for a case that antt computes, `unfolding computed` opens every definition of this crate. It says nothing itself.
use Rattle.line.specs.Line.{capture, octets_of, marks_of, is_data, is_control, as_data, as_control, is_start, preamble, first_where, find_start, find_control, run, ending, ended_by, after_start, met_starts, start_count, overwrite}
use Rattle.line.specs.Octets.{same_octets, high_first_at, high_first, low_first, between}
use Rattle.line.specs.Table.{first}

unfoldable pub computed : Unit {0}
unfolding capture octets_of marks_of is_data is_control as_data as_control is_start preamble first_where find_start find_control run ending ended_by after_start met_starts start_count overwrite same_octets high_first_at high_first low_first between first
computed = tt
