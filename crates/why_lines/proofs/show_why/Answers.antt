-- `why_lines::show_why` meets its contract: the line is written by itself, and shown. Assumes nothing.
use native.Mathlib.Omega.{arith}
use mathlib.Core.Path.{sym}
use lib.Seq.{length-take-le}
use Rattle.printing.proofs.Puts.{put_front}
use Rattle.printing.proofs.Shows.{shown_as}
use borrow.Author.Rules.{rules}
use Rattle.why_lines.proofs.show_why.Goals as goal

pub slice_bounds-line-end : goal.slice_bounds-line-end
slice_bounds-line-end c = search rules

pub slice_bounds-show-end : goal.slice_bounds-show-end
slice_bounds-show-end c = sym (length-take-le _ _ (omega arith))

pub show-requires : goal.show-requires
show-requires c =
    let e = length-take-le c.put_why-k.result c.put_why-k.new.out (omega arith) in
    omega arith

pub returns : goal.returns
returns c =
    let p = c.put_why-k.ensures in
    let e = length-take-le c.put_why-k.result c.put_why-k.new.out (omega arith) in
    record { shown = shown_as (put_front p.put p.upper_bound) c.show.ensures; upper_bound = omega (arith, c.show.ensures.goes) }
