-- `fcs::take8` meets its contract: a word of the message taken off.
-- Assumes nothing.
use native.Mathlib.Omega.{arith}
use Rattle.sparse.specs.Words.{number, four}
use Rattle.sparse.proofs.Words.{word-taken}
use Rattle.fcs.proofs.take8.Goals as goal

pub returns : goal.returns
returns c =
    let args = c.args in
    let w = args.w in
    let x = c.load8 in
    word-taken (four w.b w.c w.d w.e) w.a (number c.taken.result) args.s.now args.at x.result (λ k. omega (arith, c.type_inv.s k))
    (omega arith) (omega arith) (omega arith) x.ensures c.taken.ensures
