-- `sizes::add_frame` meets its contract. Assumes nothing.
use Rattle.sizes.specs.Sizes.{with_frame}
use Rattle.sizes.proofs.add_frame.Goals as goal

pub returns : goal.returns
unfolding with_frame
returns c = cc
