-- `station::bad_place` meets its contract, by the definition. Assumes nothing.
use Rattle.std.proofs.Common.{refl}
use Rattle.station.specs.Station.{bad_place}
use Rattle.station.proofs.bad_place.Goals as goal

pub returns : goal.returns
unfolding bad_place
returns c = refl
