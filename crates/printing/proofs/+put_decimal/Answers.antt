-- `lines::put_decimal` meets its contract: the digits of its tenth, and the last one. Assumes nothing.
use Rattle.std.proofs.Common.{length, sym, ap, arith}
use lib.ListN.{length-append}
use Rattle.printing.proofs.Digits.{decimal-small, decimal_more}
use Rattle.splice.proofs.Laws.{◌⨾◌}
use Rattle.printing.proofs.Puts.{put_as}
use Rattle.printing.proofs.+put_decimal.Goals as goal

pub put_octet-requires : goal.put_octet-requires
put_octet-requires t c = omega (arith, ap length (decimal-small c.args.n c.if-n-lt10.true))

pub returns-then-n-lt10 : goal.returns-then-n-lt10
returns-then-n-lt10 t c = put_as (sym (decimal-small c.args.n c.if-n-lt10.true)) c.put_octet.ensures

pub put_decimal-a-requires : goal.put_decimal-a-requires
put_decimal-a-requires t c =
    let n = c.args.n in
    (omega arith, omega (arith, simp length-append at (ap length (decimal_more n (omega arith)))))

pub put_octet-requires-2 : goal.put_octet-requires-2
put_octet-requires-2 t c =
    let n = c.args.n in
    let p = c.put_decimal-a.ensures in
    omega (arith, p.goes, simp length-append at (ap length (decimal_more n (omega arith))))

pub returns : goal.returns
returns t c =
    let n = c.args.n in
    put_as (sym (decimal_more n (omega arith))) (c.put_decimal-a.ensures ⨾ c.put_octet-2.ensures)
