-- `line::find_start` meets its contract: the symbol at the place, the Idles after it and what the last search passed are no Start. Assumes nothing.
use native.Mathlib.Omega.{arith}
use mathlib.Core.Path.{sym, ◌∙◌}
use Rattle.line.specs.Passed.{Passed}
use Rattle.line.proofs.Passing.{passed_none, passed-one, passed_on, passed_as, Miss, search_found, search_none, search_ended, idle-passed}
use Rattle.line.specs.Line.{is_start, find_start}
use Rattle.line.proofs.Search.{search_here}
use Rattle.line.proofs.find_start.Goals as goal
use Rattle.line.proofs.find_start.Goals.{After-start_from-j}

pub returns-then-end-place : goal.returns-then-end-place
unfolding find_start
returns-then-end-place c =
    let a = c.args in
    search_none is_start a.octets.now a.marks.now a.place _ (λ h. omega arith) c.if-end-place.true

pub returns-then-is_start : goal.returns-then-is_start
unfolding find_start
returns-then-is_start c =
    let a = c.args in
    sym (search_here is_start a.octets.now a.marks.now a.place (omega arith) (omega arith) (sym c.is_start.ensures ∙ c.if-is_start.true))

-- from the place called with to where the last search stopped
others-to : (c : After-start_from-j) → (let a = c.args in
    Passed (Miss is_start a.octets.now a.marks.now) a.place c.start_from-j.result c.min-end.result)
others-to c =
    let a = c.args in
    let os = a.octets.now in
    let ms = a.marks.now in
    let e = c.min-end.result in
    let other = sym c.is_start.ensures ∙ c.if-is_start.false in
    let one = passed-one (Miss is_start os ms) a.place a.place e (passed_none (Miss is_start os ms) a.place e (omega arith)) (omega arith) other in
    passed_on _ _ _ _ _ (passed_on _ _ _ _ _ one (passed_as (idle-passed os ms) c.pass_words-i.ensures)) c.start_from-j.ensures.passed

pub returns-then-j-end : goal.returns-then-j-end
unfolding find_start
returns-then-j-end c =
    let a = c.args in
    let b = c.start_from-j in
    search_found is_start a.octets.now a.marks.now a.place b.result _ (omega arith) (omega arith)
    (others-to (goal.at.returns-then-j-end c).After-start_from-j) c.if-j-end.true
    (b.ensures.here c.if-j-end.true)

pub returns : goal.returns
unfolding find_start
returns c =
    let a = c.args in
    search_ended is_start a.octets.now a.marks.now a.place _ _ (omega arith) (omega arith) (λ h. omega arith)
    (others-to (goal.at.returns c).After-start_from-j) c.if-j-end.false
