-- Internal: what the contract of one function speaks of, opened together where the check proves that function. It says nothing itself.
use Rattle.fields.specs.Places.{layout_of}
use Rattle.frame.specs.Frame.{frame_data}
use Rattle.frame.specs.Length.{client_data, handed_length}
use Rattle.reason.specs.Reasons.{handed_reason}

unfoldable pub of_handed : Unit {0}
unfolding handed_reason frame_data handed_length client_data layout_of
of_handed = tt
