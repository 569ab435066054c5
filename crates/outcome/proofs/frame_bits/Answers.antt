-- `outcome::frame_bits` meets its contract: the bits of its kind, and its length above the lowest sixteen. Assumes nothing.
use native.Mathlib.Omega.{arith}
use Rattle.outcome.specs.Status.{frame_bits}
use Rattle.outcome.proofs.frame_bits.Goals as goal

pub returns : goal.returns
unfolding frame_bits
returns c = (rw c.kind_bits.ensures.0, omega arith)
