-- `line::find_control` meets its contract: a control symbol at the place, or what each of its searches passed, one after the other, is data.
-- Assumes nothing.
use native.Mathlib.Omega.{arith}
use mathlib.Core.Path.{sym}
use Rattle.line.specs.Passed.{Passed}
use Rattle.line.proofs.Passing.{passed_on, passed_as, Miss, search_found, search_none, search_ended, data_passed}
use Rattle.line.specs.Line.{is_control, find_control}
use Rattle.line.proofs.Buffers.{symbol_at}
use Rattle.line.proofs.Search.{control_tests, search_here}
use Rattle.line.proofs.find_control.Goals as goal
use Rattle.line.proofs.find_control.Goals.{After-first_mark-k}

pub returns-then-end-place : goal.returns-then-end-place
unfolding find_control
returns-then-end-place c =
    let a = c.args in
    search_none is_control a.octets.now a.marks.now a.place _ (λ h. omega arith) c.if-end-place.true

pub bounds-marks-place : goal.bounds-marks-place
bounds-marks-place c = omega arith

pub returns-then-marks-place-ne0 : goal.returns-then-marks-place-ne0
unfolding find_control
returns-then-marks-place-ne0 c =
    let a = c.args in
    let x = symbol_at a.octets.now a.marks.now a.place in
    sym (search_here is_control a.octets.now a.marks.now a.place (omega arith) (omega arith) (control_tests x c.if-marks-place-ne0.true))

-- from the place called with to where the last search stopped
data-to : (c : After-first_mark-k) → (let a = c.args in
    Passed (Miss is_control a.octets.now a.marks.now) a.place c.first_mark-k.result c.min-end.result)
data-to c =
    let a = c.args in
    let blocks = passed_on _ _ _ _ _ c.pass_data-h.ensures c.pass_data-i.ensures in
    let words = passed_on _ _ _ _ _ blocks c.pass_words-j.ensures in
    passed_as (data_passed a.octets.now a.marks.now) (passed_on _ _ _ _ _ words c.first_mark-k.ensures.passed)

pub returns-then-k-end : goal.returns-then-k-end
unfolding find_control
returns-then-k-end c =
    let a = c.args in
    let b = c.first_mark-k in
    search_found is_control a.octets.now a.marks.now a.place b.result _ (omega arith) (omega arith)
    (data-to (goal.at.returns-then-k-end c).After-first_mark-k) c.if-k-end.true
    (control_tests (symbol_at a.octets.now a.marks.now b.result) (b.ensures.here c.if-k-end.true))

pub returns : goal.returns
unfolding find_control
returns c =
    let a = c.args in
    search_ended is_control a.octets.now a.marks.now a.place _ _ (omega arith) (omega arith) (λ h. omega arith)
    (data-to (goal.at.returns c).After-first_mark-k) c.if-k-end.false
