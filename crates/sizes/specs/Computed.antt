-- Internal: for a case that antt computes, `unfolding computed` opens every definition of this crate and of those below. It says nothing itself.
use Rattle.sizes.specs.Sizes.{sized, bands, band, raised, with_frame, with_frames, fresh_sizes}
use Rattle.sizes.specs.Sizes.{length_by, frame_lengths, add_checked, adding, together, add_tables}
use Rattle.receive.specs.Computed as receive

unfoldable pub computed : Unit {0}
unfolding receive.computed sized bands band raised with_frame with_frames fresh_sizes length_by frame_lengths add_checked adding together add_tables
computed = tt
