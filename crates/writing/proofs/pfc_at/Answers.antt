-- `writing::pfc_at` meets its contract: a frame that is written up to its FCS and then finished, through the lent parts (`frame_at`). Assumes nothing.
use native.Mathlib.Omega.{arith}
use borrow.Author.Rules.{rules}
use Rattle.splice.proofs.Laws.{put-length}
use Rattle.writing.specs.Frames.{pfc_body, pfc_symbols}
use Rattle.writing.proofs.Pieces.{end_size, body_end, part_size, frame_at}
use Rattle.writing.proofs.Sizes.{length_mapped, line_size, pfc-body_size}
use Rattle.writing.proofs.pfc_at.Goals as goal

pub put_pfc-a-requires : goal.put_pfc-a-requires
unfolding pfc_symbols
put_pfc-a-requires c =
    let body = pfc-body_size c.args.s c.args.classes (search rules) (search (length_mapped, rules)) in
    omega (arith, part_size c.args.octets.now c.args.place, line_size c.args.idles (pfc_body c.args.s c.args.classes))

pub finish-requires : goal.finish-requires
unfolding pfc_symbols
finish-requires c =
    let end = body_end c.args.idles (pfc_body c.args.s c.args.classes) c.put_pfc-a.ensures in
    omega (arith, put-length c.put_pfc-a.ensures, part_size c.args.octets.now c.args.place, part_size c.args.marks.now c.args.place)

pub overflow_add-result : goal.overflow_add-result
unfolding pfc_symbols
overflow_add-result c =
    let end = body_end c.args.idles (pfc_body c.args.s c.args.classes) c.put_pfc-a.ensures in
    omega (arith, c.finish.ensures.octets.goes, end_size c.args.idles c.put_pfc-a.new.octets c.put_pfc-a.result)

pub returns : goal.returns
unfolding pfc_symbols
returns c =
    frame_at c.args.idles (pfc_body c.args.s c.args.classes) (search rules) (search rules) c.put_pfc-a.ensures c.finish.ensures.octets c.finish.ensures.marks
