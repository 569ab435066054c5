-- `station::fresh_state` meets its contract. Assumes nothing.
use Rattle.std.proofs.Common.{refl}
use Rattle.station.specs.Station.{fresh}
use Rattle.station.proofs.fresh_state.Goals as goal

pub returns : goal.returns
unfolding fresh
returns c = refl
