-- `sizes::fresh_sizes` meets its contract. Assumes nothing.
use Rattle.std.proofs.Common.{refl}
use Rattle.sizes.specs.Sizes.{fresh_sizes}
use Rattle.sizes.proofs.fresh_sizes.Goals as goal

pub returns : goal.returns
unfolding fresh_sizes
returns c = refl
