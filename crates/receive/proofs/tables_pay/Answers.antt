-- `receive::tables_pay` meets its contract: it says yes only where so many symbols are left. Assumes nothing.
use Rattle.std.proofs.Common.{arith}
use mathlib.Core.Bool.{false≢true}
use Rattle.receive.proofs.tables_pay.Goals as goal

pub returns-then-octets-place : goal.returns-then-octets-place
returns-then-octets-place c = λ h. absurd (false≢true h)

pub returns-then-marks-octets : goal.returns-then-marks-octets
returns-then-marks-octets c = λ h. absurd (false≢true h)

pub returns-then-left-lt4096 : goal.returns-then-left-lt4096
returns-then-left-lt4096 c = λ h. absurd (false≢true h)

pub slice_bounds-three_starts-count : goal.slice_bounds-three_starts-count
slice_bounds-three_starts-count c = omega arith

pub slice_bounds-three_starts-start : goal.slice_bounds-three_starts-start
slice_bounds-three_starts-start c = omega arith

pub slice_bounds-three_starts-end : goal.slice_bounds-three_starts-end
slice_bounds-three_starts-end c = omega arith

pub slice_bounds-three_starts-count-then-left-lt24576 : goal.slice_bounds-three_starts-count-then-left-lt24576
slice_bounds-three_starts-count-then-left-lt24576 c = omega arith

pub slice_bounds-three_starts-start-then-left-lt24576 : goal.slice_bounds-three_starts-start-then-left-lt24576
slice_bounds-three_starts-start-then-left-lt24576 c = omega arith

pub slice_bounds-three_starts-end-then-left-lt24576 : goal.slice_bounds-three_starts-end-then-left-lt24576
slice_bounds-three_starts-end-then-left-lt24576 c = omega arith

pub returns-then-left-lt24576 : goal.returns-then-left-lt24576
returns-then-left-lt24576 c = λ h. omega arith

pub slice_bounds-three_starts-count-2 : goal.slice_bounds-three_starts-count-2
slice_bounds-three_starts-count-2 c = omega arith

pub slice_bounds-three_starts-start-2 : goal.slice_bounds-three_starts-start-2
slice_bounds-three_starts-start-2 c = omega arith

pub slice_bounds-three_starts-end-2 : goal.slice_bounds-three_starts-end-2
slice_bounds-three_starts-end-2 c = omega arith

pub slice_bounds-three_starts-count-3 : goal.slice_bounds-three_starts-count-3
slice_bounds-three_starts-count-3 c = omega arith

pub slice_bounds-three_starts-start-3 : goal.slice_bounds-three_starts-start-3
slice_bounds-three_starts-start-3 c = omega arith

pub slice_bounds-three_starts-end-3 : goal.slice_bounds-three_starts-end-3
slice_bounds-three_starts-end-3 c = omega arith

pub returns : goal.returns
returns c = λ h. omega arith
