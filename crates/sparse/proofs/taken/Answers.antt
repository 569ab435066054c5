-- `sparse::taken` meets its contract: the word in the five places to which it is carried.
-- Assumes nothing.
use native.Mathlib.Omega.{arith}
use lib.Bits.{bit_xor, xor_lt}
use Rattle.sparse.proofs.Words.{carried}
use Rattle.sparse.proofs.taken.Goals as goal

pub returns : goal.returns
returns c =
    carried (bit_xor c.args.w.a c.args.x) (xor_lt 64 c.args.w.a c.args.x (omega arith) (omega arith)) c.args.w.b c.args.w.c c.args.w.d c.args.w.e
    (omega arith) (omega arith) (omega arith) (omega arith)
