-- What was printed lies inside the buffer.
use Rattle.std.proofs.Common.{sym, length-take-le}
use Rattle.printing.proofs.Puts.{front-inside}
use Rattle.size_table.proofs.main.Goals as goal

pub slice_bounds-out-end : goal.slice_bounds-out-end
slice_bounds-out-end c = let p = c.print_sizes-k.ensures in front-inside _ _ _ _ p.value p.out_after

pub slice_bounds-write_all-end : goal.slice_bounds-write_all-end
slice_bounds-write_all-end c = let p = c.print_sizes-k.ensures in sym (length-take-le _ _ (front-inside _ _ _ _ p.value p.out_after))
