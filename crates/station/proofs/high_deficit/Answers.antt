-- `station::high_deficit` meets its contract: each way out rewrites with the port. Assumes nothing.
use Rattle.station.specs.Station.{high_deficit}
use Rattle.station.proofs.high_deficit.Goals as goal

pub returns-in_default : goal.returns-in_default
unfolding high_deficit
returns-in_default c = rw c.in_default.is

pub returns : goal.returns
unfolding high_deficit
returns c = rw c.in-FourLane.is
