-- `frame::differs` meets its contract: four octets are those of a check exactly when their number is the check. Assumes nothing.
use Rattle.std.proofs.Common.{arith}
use Rattle.frame.proofs.Fcs.{last-number, last_sum, last-short}
use Rattle.frame.proofs.differs.Goals as goal

pub returns-then-n-lt-FCS_SIZE : goal.returns-then-n-lt-FCS_SIZE
returns-then-n-lt-FCS_SIZE c = rw (last-short c.args.f.now c.args.check c.if-n-lt-FCS_SIZE.true)

pub returns : goal.returns
returns c =
    let f = c.args.f.now in
    rw (last-number f c.args.check (omega arith) (λ k. omega (arith, c.type_inv.f k)) (omega arith), ← last_sum f (omega arith), ← c.from_le_bytes.ensures)
