-- Internal: for a case that antt computes, `unfolding computed` opens every definition of this crate and of those below. It says nothing itself.
use Rattle.address.specs.Address.{broadcast_address}
use Rattle.fields.specs.Computed as fields
use Rattle.station.specs.Computed as station

unfoldable pub computed : Unit {0}
unfolding fields.computed station.computed broadcast_address
computed = tt
