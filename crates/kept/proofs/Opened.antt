-- Internal: what the contract of one function speaks of, opened together where the check proves that function. It says nothing itself.
use Rattle.line.specs.Table.{first}
use Rattle.fields.specs.Places.{layout_of}
use Rattle.frame.specs.Frame.{over_limit}
use Rattle.outcome.specs.Outcomes.{cut}
use Rattle.kept.specs.Kept.{front_of, frame_size, data_octets, handed_octets, frame_outcomes, kept_outcomes, kept_outcome, kept_bits, kept_word, kept_part, kept_told}

unfoldable pub of_frame_outcome : Unit {0}
unfolding frame_outcomes data_octets frame_size over_limit layout_of first
of_frame_outcome = tt

unfoldable pub of_outcome : Unit {0}
unfolding front_of kept_outcome kept_outcomes cut first
of_outcome = tt

unfoldable pub of_frame_told : Unit {0}
unfolding kept_told kept_word kept_part kept_bits data_octets handed_octets frame_size layout_of
of_frame_told = tt
