-- `writing::put_pause` meets its contract: three writes, by `◌⨾◌`. Assumes nothing.
use native.Mathlib.Omega.{arith}
use Rattle.splice.proofs.Laws.{◌⨾◌}
use Rattle.writing.proofs.Pieces.{control_size, pause_pieces}
use Rattle.writing.proofs.Sizes.{two}
use borrow.Author.Rules.{rules}
use Rattle.writing.proofs.put_pause.Goals as goal

pub put_number-b-requires : goal.put_number-b-requires
put_number-b-requires c = omega (arith, control_size c.args.s.own 0x0001 (search rules))

pub fill-requires : goal.fill-requires
fill-requires c = omega (arith, control_size c.args.s.own 0x0001 (search rules), rw two at c.put_number-b.ensures.goes)

pub returns : goal.returns
returns c = rw (pause_pieces c.args.s c.args.q) at (c.put_control-a.ensures ⨾ c.put_number-b.ensures ⨾ c.fill.ensures)
