-- Internal: for a case that antt computes, `unfolding computed` opens every definition of this crate and of those below. It says nothing itself.
use Rattle.frame.specs.Frame.{undersized, over_limit, oversized, data_from, frame_data, covered, last_four, wrong_fcs}
use Rattle.frame.specs.Length.{shortest, kept, breaks_length, wrong_length, handed_count, handed_of, client_data, handed_length}
use Rattle.fields.specs.Computed as fields
use Rattle.fcs.specs.Computed as fcs

unfoldable pub computed : Unit {0}
unfolding fields.computed fcs.computed undersized over_limit oversized data_from frame_data covered last_four wrong_fcs shortest kept breaks_length wrong_length handed_count handed_of client_data handed_length
computed = tt
