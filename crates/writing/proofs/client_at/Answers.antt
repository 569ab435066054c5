-- `writing::client_at` meets its contract: a frame that is written up to its FCS and then finished, through the lent parts (`frame_at`). Assumes nothing.
use native.Mathlib.Omega.{arith}
use borrow.Author.Rules.{rules}
use Rattle.splice.proofs.Laws.{put-length}
use Rattle.writing.specs.Frames.{client_body, client_symbols}
use Rattle.writing.proofs.Pieces.{end_size, body_end, part_size, frame_at}
use Rattle.writing.proofs.Sizes.{line_size}
use Rattle.writing.proofs.client_at.Goals as goal

pub put_client-a-requires : goal.put_client-a-requires
unfolding client_symbols
put_client-a-requires c =
    let line = line_size c.args.idles (client_body c.args.s c.args.client c.args.d.now) in
    (omega (arith, part_size c.args.octets.now c.args.place), search rules, search rules)

pub finish-requires : goal.finish-requires
unfolding client_symbols
finish-requires c =
    let end = body_end c.args.idles (client_body c.args.s c.args.client c.args.d.now) c.put_client-a.ensures in
    omega (arith, put-length c.put_client-a.ensures, part_size c.args.octets.now c.args.place, part_size c.args.marks.now c.args.place)

pub overflow_add-result : goal.overflow_add-result
unfolding client_symbols
overflow_add-result c =
    let end = body_end c.args.idles (client_body c.args.s c.args.client c.args.d.now) c.put_client-a.ensures in
    omega (arith, c.finish.ensures.octets.goes, end_size c.args.idles c.put_client-a.new.octets c.put_client-a.result)

pub returns : goal.returns
unfolding client_symbols
returns c =
    frame_at c.args.idles (client_body c.args.s c.args.client c.args.d.now) (search rules) (search rules) c.put_client-a.ensures
    c.finish.ensures.octets
    c.finish.ensures.marks
