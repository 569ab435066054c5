-- Internal: for a case that antt computes, `unfolding computed` opens every definition of this crate and of those below. It says nothing itself.
use Rattle.kept.specs.Kept.{begun, front_of, frame_size, data_octets, handed_octets, later_outcomes, frame_outcomes, kept_outcomes, kept_outcome, kept_bits, kept_word, kept_part, kept_told, symbol_refusals}
use Rattle.receive.specs.Computed as receive

unfoldable pub computed : Unit {0}
unfolding receive.computed begun front_of frame_size data_octets handed_octets later_outcomes frame_outcomes kept_outcomes kept_outcome kept_bits kept_word kept_part kept_told symbol_refusals
computed = tt
