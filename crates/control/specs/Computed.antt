-- Internal: for a case that antt computes, `unfolding computed` opens every definition of this crate and of those below. It says nothing itself.
use Rattle.control.specs.Control.{is_control_frame, opcode, reserved_group, to_reserved_group, to_own, filtered, takes_pause, takes_pfc, drops_control, frame_way, way_carried}
use Rattle.table.specs.Computed as table

unfoldable pub computed : Unit {0}
unfolding table.computed is_control_frame opcode reserved_group to_reserved_group to_own filtered takes_pause takes_pfc drops_control frame_way way_carried
computed = tt
