-- `show_records` meets its contract. What `split` wrote is the front of each buffer. Assumes nothing.
use Prim.Native.Nat.{◌/◌}
use native.Mathlib.Omega.{arith}
use mathlib.Core.Path.{sym, ap₂}
use lib.ListN.{length}
use lib.Seq.{length-take-le}
use Rattle.printing.proofs.Puts.{put_front}
use Rattle.printing.proofs.Shows.{shown_as}
use Rattle.printing.proofs.Records.{good_short}
use borrow.Author.Rules.{rules}
use Rattle.printing.proofs.show_records.Goals as goal

pub split-requires : goal.split-requires
split-requires g c = let h = good_short c.args.input.now c.requires in (omega arith, omega arith)

pub slice_bounds-o-end : goal.slice_bounds-o-end
slice_bounds-o-end g c = let h = good_short c.args.input.now c.requires in omega arith

pub slice_bounds-show_lines-end : goal.slice_bounds-show_lines-end
slice_bounds-show_lines-end g c = sym (length-take-le _ _ (let h = good_short c.args.input.now c.requires in omega arith))

pub slice_bounds-m-end : goal.slice_bounds-m-end
slice_bounds-m-end g c = let h = good_short c.args.input.now c.requires in omega arith

pub slice_bounds-show_lines-end-2 : goal.slice_bounds-show_lines-end-2
slice_bounds-show_lines-end-2 g c = sym (length-take-le _ _ (let h = good_short c.args.input.now c.requires in omega arith))

pub show_lines-requires : goal.show_lines-requires
show_lines-requires g c =
    let h = good_short c.args.input.now c.requires in
    let e = length-take-le (length c.args.input.now / 2) c.split.new.octets (omega arith) in
    omega arith

pub returns : goal.returns
returns g c =
    let h = good_short c.args.input.now c.requires in
    let p = c.split.ensures in
    let q = c.show_lines.ensures in
    record {
      shown = shown_as (ap₂ g.L.CaptureLines.lines (put_front p.put (omega arith)) (put_front p.put_2 (omega arith))) q.shown;
      upper_bound = search rules;
    }
