-- `writing::put_pfc` meets its contract: four writes, by `◌⨾◌`. Assumes nothing.
use native.Mathlib.Omega.{arith}
use mathlib.Core.Path.{◌≡◌}
use lib.ListN.{length}
use Rattle.splice.proofs.Laws.{◌⨾◌}
use Rattle.writing.proofs.Pieces.{control_size, pfc_pieces}
use Rattle.writing.proofs.Sizes.{length_mapped, quanta_size}
use borrow.Author.Rules.{rules}
use Rattle.writing.proofs.put_pfc.Goals as goal

pub put-b-requires : goal.put-b-requires
put-b-requires c = omega (arith, control_size c.args.s.own 0x0101 (search rules))

pub put_quanta-c-requires : goal.put_quanta-c-requires
put_quanta-c-requires c = omega (arith, control_size c.args.s.own 0x0101 (search rules))

pub fill-requires : goal.fill-requires
fill-requires c =
    let eight : length c.args.classes.quanta ≡ 8 = search (length_mapped, rules) in
    omega (arith, control_size c.args.s.own 0x0101 (search rules), quanta_size c.args.classes.named c.args.classes.quanta)

pub returns : goal.returns
returns c =
    rw (pfc_pieces c.args.s c.args.classes) at (c.put_control-a.ensures ⨾ c.put-b.ensures ⨾ c.put_quanta-c.ensures ⨾ c.fill.ensures)
