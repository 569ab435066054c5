-- `writing::put_data` meets its contract: two writes, by `◌⨾◌`. Assumes nothing.
use native.Mathlib.Omega.{arith}
use Rattle.splice.proofs.Laws.{◌⨾◌}
use Rattle.writing.specs.Frames.{padded}
use Rattle.writing.proofs.Sizes.{padded_size}
use Rattle.writing.proofs.put_data.Goals as goal

pub put-a-requires : goal.put-a-requires
put-a-requires c = omega (arith, padded_size c.args.d.now)

pub fill-requires : goal.fill-requires
fill-requires c = omega (arith, padded_size c.args.d.now)

pub returns : goal.returns
unfolding padded
returns c = c.put-a.ensures ⨾ rw c.saturating_sub.ensures at c.fill.ensures
