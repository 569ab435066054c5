-- `print_part` meets its contract: what was shown is the part. Assumes nothing.
use Rattle.printing.proofs.Shows.{shown_whole}
use borrow.Author.Rules.{rules}
use Rattle.printing.proofs.print_part.Goals as goal

pub returns : goal.returns
returns g c =
    let p = c.show_all-total.ensures in
    let w = shown_whole {room = 131072} {most = g.P.Output.most} {k = c.part_length.result} p.shown (search rules) p.upper_bound c.part_length.ensures in
    record { value = w.0; out_after = w.1.0; input_len_bound = w.1.1 }
