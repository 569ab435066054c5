-- Internal: for a case that antt computes, `unfolding computed` opens every definition of this crate and of those below. It says nothing itself.
use Rattle.fcs.specs.Fcs.{fcs}
use Rattle.crc.specs.Computed as crc

unfoldable pub computed : Unit {0}
unfolding crc.computed fcs
computed = tt
