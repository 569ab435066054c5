-- `totals::block_total` meets its contract: a whole block, or the last short one. Assumes nothing.
use mathlib.Core.Path.{◌∙◌}
use native.Mathlib.Omega.{arith}
use Rattle.line.specs.Line.{capture}
use Rattle.line.proofs.Buffers.{length-capture}
use Rattle.totals.proofs.Laws.{block_to}
use Rattle.totals.proofs.block_total.Goals as goal

pub returns-then-left-lt-BLOCK_SIZE : goal.returns-then-left-lt-BLOCK_SIZE
returns-then-left-lt-BLOCK_SIZE c =
    let a = c.args in
    let n = length-capture a.octets.now a.marks.now c.requires.0 in
    c.starts_in.ensures ∙ block_to (capture a.octets.now a.marks.now) a.k _ (omega arith) (omega arith)

pub returns : goal.returns
returns c =
    let a = c.args in
    let n = length-capture a.octets.now a.marks.now c.requires.0 in
    c.starts_in-2.ensures ∙ block_to (capture a.octets.now a.marks.now) a.k _ (omega arith) (omega arith)
