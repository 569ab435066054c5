-- `writing::put_control` meets its contract: three writes, by `◌⨾◌`. Assumes nothing.
use native.Mathlib.Omega.{arith}
use Rattle.splice.proofs.Laws.{◌⨾◌}
use Rattle.control.specs.Control.{reserved_group}
use Rattle.writing.specs.Pieces.{control_of}
use Rattle.writing.proofs.Pieces.{head_size}
use Rattle.writing.proofs.Sizes.{two, group-six}
use borrow.Author.Rules.{rules}
use Rattle.writing.proofs.put_control.Goals as goal

pub put_number-b-requires : goal.put_number-b-requires
unfolding reserved_group
put_number-b-requires c = omega (arith, head_size reserved_group c.args.own group-six (search rules))

pub put_number-requires : goal.put_number-requires
unfolding reserved_group
put_number-requires c = omega (arith, head_size reserved_group c.args.own group-six (search rules), rw two at c.put_number-b.ensures.goes)

pub returns : goal.returns
unfolding control_of reserved_group
returns c = search (◌⨾◌)
