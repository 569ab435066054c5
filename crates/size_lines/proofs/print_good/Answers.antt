-- `print_good` meets its contract. What `split` wrote is the front of each buffer. Assumes nothing.
use native.Mathlib.Omega.{arith}
use mathlib.Core.Path.{sym, ◌∙◌}
use lib.Seq.{length-take-le}
use borrow.Author.Rules.{rules}
use Rattle.printing.proofs.Puts.{put_as, put_front}
use Rattle.printing.proofs.Records.{good_short}
use Rattle.size_lines.proofs.Laws.{good_printed, sizes-printed}
use Rattle.size_lines.proofs.print_good.Goals as goal

pub split-requires : goal.split-requires
split-requires c = let h = good_short c.args.input.now c.requires.0 in (omega arith, omega arith)

pub slice_bounds-o-end : goal.slice_bounds-o-end
slice_bounds-o-end c = let h = good_short c.args.input.now c.requires.0 in omega arith

pub slice_bounds-add_capture-end : goal.slice_bounds-add_capture-end
slice_bounds-add_capture-end c = let h = good_short c.args.input.now c.requires.0 in sym (length-take-le _ _ (omega arith))

pub slice_bounds-m-end : goal.slice_bounds-m-end
slice_bounds-m-end c = let h = good_short c.args.input.now c.requires.0 in omega arith

pub slice_bounds-add_capture-end-2 : goal.slice_bounds-add_capture-end-2
slice_bounds-add_capture-end-2 c = let h = good_short c.args.input.now c.requires.0 in sym (length-take-le _ _ (omega arith))

pub put_table-requires : goal.put_table-requires
put_table-requires c = let h = c.requires.1 in omega arith

pub returns : goal.returns
returns c =
    let h = good_short c.args.input.now c.requires.0 in
    let p = c.split.ensures in
    record {
      put = put_as
          (sizes-printed c.add_capture-added.ensures c.fresh_sizes.ensures c.settings.ensures c.empty-none.ensures
          (put_front p.put (omega arith))
          (put_front p.put_2 (omega arith))
          ∙ good_printed c.args.input.now c.requires.0)
          c.put_table.ensures.put;
      upper_bound = search rules;
    }
