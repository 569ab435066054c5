-- `show_all` meets its contract: a bad input has the text that the law gives. Assumes nothing.
use native.Mathlib.Omega.{arith}
use mathlib.Core.Path.{sym, ◌∙◌}
use Rattle.printing.proofs.Shows.{shown_as}
use Rattle.printing.proofs.show_all.Goals as goal

pub returns-then-bad_input : goal.returns-then-bad_input
returns-then-bad_input g c =
    let is = g.met.P.Output.told_bad c.args.input.now (sym c.bad_input.ensures ∙ c.if-bad_input.true) in
    record { shown = shown_as is c.show.ensures; upper_bound = omega (arith, c.show.ensures.goes, g.met.P.Output.bounded.0) }

pub show_good-requires : goal.show_good-requires
show_good-requires g c = sym c.bad_input.ensures ∙ c.if-bad_input.false
