-- `writing::pause_at` meets its contract: a frame that is written up to its FCS and then finished, through the lent parts (`frame_at`). Assumes nothing.
use native.Mathlib.Omega.{arith}
use borrow.Author.Rules.{rules}
use Rattle.splice.proofs.Laws.{put-length}
use Rattle.writing.specs.Frames.{pause_body, pause_symbols}
use Rattle.writing.proofs.Pieces.{end_size, body_end, part_size, frame_at}
use Rattle.writing.proofs.Sizes.{line_size, pause-body_size}
use Rattle.writing.proofs.pause_at.Goals as goal

pub put_pause-a-requires : goal.put_pause-a-requires
unfolding pause_symbols
put_pause-a-requires c =
    let body = pause-body_size c.args.s c.args.q (search rules) in
    omega (arith, part_size c.args.octets.now c.args.place, line_size c.args.idles (pause_body c.args.s c.args.q))

pub finish-requires : goal.finish-requires
unfolding pause_symbols
finish-requires c =
    let end = body_end c.args.idles (pause_body c.args.s c.args.q) c.put_pause-a.ensures in
    omega (arith, put-length c.put_pause-a.ensures, part_size c.args.octets.now c.args.place, part_size c.args.marks.now c.args.place)

pub overflow_add-result : goal.overflow_add-result
unfolding pause_symbols
overflow_add-result c =
    let end = body_end c.args.idles (pause_body c.args.s c.args.q) c.put_pause-a.ensures in
    omega (arith, c.finish.ensures.octets.goes, end_size c.args.idles c.put_pause-a.new.octets c.put_pause-a.result)

pub returns : goal.returns
unfolding pause_symbols
returns c =
    frame_at c.args.idles (pause_body c.args.s c.args.q) (search rules) (search rules) c.put_pause-a.ensures c.finish.ensures.octets c.finish.ensures.marks
