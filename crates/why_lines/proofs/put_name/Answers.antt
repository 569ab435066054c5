-- `why_lines::put_name` meets its contract: each way out passes the rows that did not hold. Assumes nothing.
use native.Mathlib.Omega.{arith}
use mathlib.Core.Path.{sym, ◌∙◌}
use borrow.Author.Tests.{eq-eqb, ne_eqb}
use Rattle.line.proofs.Tables.{first-here, first_next, first-other}
use Rattle.printing.proofs.Puts.{put_as}
use Rattle.why_lines.specs.Whys.{end_name}
use Rattle.why_lines.proofs.put_name.Goals as goal

pub returns-then-v-eq7 : goal.returns-then-v-eq7
unfolding end_name
returns-then-v-eq7 c =
    record { put = put_as (sym (first-here _ _ (eq-eqb _ _ c.if-v-eq7.true))) c.put.ensures; upper_bound = omega (arith, c.put.ensures.goes) }

pub returns-then-v-eq251 : goal.returns-then-v-eq251
unfolding end_name
returns-then-v-eq251 c =
    let is = first_next _ _ (ne_eqb _ _ c.if-v-eq7.false) ∙ first-here _ _ (eq-eqb _ _ c.if-v-eq251.true) in
    record { put = put_as (sym is) c.put-then-v-eq251.ensures; upper_bound = omega (arith, c.put-then-v-eq251.ensures.goes) }

pub returns-then-v-eq254 : goal.returns-then-v-eq254
unfolding end_name
returns-then-v-eq254 c =
    let is = first_next _ _ (ne_eqb _ _ c.if-v-eq7.false) ∙ first_next _ _ (ne_eqb _ _ c.if-v-eq251.false) ∙ first-here _ _ (eq-eqb _ _ c.if-v-eq254.true) in
    record { put = put_as (sym is) c.put-then-v-eq254.ensures; upper_bound = omega (arith, c.put-then-v-eq254.ensures.goes) }

pub returns : goal.returns
unfolding end_name
returns c =
    let is =
    first_next _ _ (ne_eqb _ _ c.if-v-eq7.false)
    ∙ first_next _ _ (ne_eqb _ _ c.if-v-eq251.false)
    ∙ first_next _ _ (ne_eqb _ _ c.if-v-eq254.false)
    ∙ first-other _
    in
    record { put = put_as (sym is) c.put-2.ensures; upper_bound = omega (arith, c.put-2.ensures.goes) }
