-- `station::count` meets its contract: what the two callees ensure, put into the definition. Assumes nothing.
use Rattle.station.specs.Station.{counter, counted}
use Rattle.station.proofs.count.Goals as goal

pub returns : goal.returns
unfolding counted counter
returns c = rw c.outcome_number.ensures
