-- `size_lines::print_sizes` meets its contract. Its two cases are those of `printed_sizes`. Assumes nothing.
use native.Mathlib.Omega.{arith}
use mathlib.Core.Path.{sym, ◌∙◌}
use Rattle.printing.proofs.Puts.{put_as, put_whole}
use Rattle.size_lines.proofs.Laws.{bad_printed}
use borrow.Author.Rules.{rules}
use Rattle.size_lines.proofs.print_sizes.Goals as goal

pub returns-then-bad_input : goal.returns-then-bad_input
returns-then-bad_input c =
    let is = bad_printed c.args.input.now (sym c.bad_input.ensures ∙ c.if-bad_input.true) in
    let w = put_whole (put_as is c.put.ensures) (omega (arith, c.put.ensures.goes)) in
    record { value = w.0; out_after = w.1 }

pub print_good-requires : goal.print_good-requires
print_good-requires c = (sym c.bad_input.ensures ∙ c.if-bad_input.false, search rules)

pub returns : goal.returns
returns c =
    let p = c.print_good.ensures in
    let w = put_whole p.put p.upper_bound in
    record { value = w.0; out_after = w.1 }
