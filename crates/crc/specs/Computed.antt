-- Internal: for a case that antt computes, `unfolding computed` opens every definition of this crate. It says nothing itself.
use Rattle.crc.specs.Crc.{crc_octet}

unfoldable pub computed : Unit {0}
unfolding crc_octet
computed = tt
