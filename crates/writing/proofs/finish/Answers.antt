-- `writing::finish` meets its contract: both writes end at the same place. Assumes nothing.
use native.Mathlib.Omega.{arith}
use mathlib.Core.Path.{◌≡◌}
use mathlib.Core.List.{List}
use Prim.Native.Nat.{ℕ, ◌+◌}
use Rattle.splice.specs.Written.{Put}
use Rattle.writing.specs.Pieces.{frame_marks}
use Rattle.writing.proofs.Pieces.{end_size, marks_size}
use Rattle.writing.proofs.finish.Goals as goal

-- the marks of as many symbols as there are up to the end, and the same place behind them
same_end : (idles : ℕ) {ms ms' : List ℕ} {n r e : ℕ} → n ≡ e → r ≡ e → Put ms 0 (frame_marks idles n) r ms' → Put ms 0 (frame_marks idles e) e ms'
same_end idles h g p = rw (h, g) at p

pub returns : goal.returns
returns c =
    let m = marks_size c.args.idles (c.args.at + (c.args.idles + 5)) (omega arith) in
    let e = end_size c.args.idles c.args.octets.now c.args.at in
    let last : c.args.at + (c.args.idles + 5) ≡ c.put_end.result = omega arith in
    let same : c.put_marks.result ≡ c.put_end.result = omega arith in
    record { octets = c.put_end.ensures; marks = same_end c.args.idles last same c.put_marks.ensures }
