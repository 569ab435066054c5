-- `size_lines::put_band` meets its contract: one write after the other. Assumes nothing.
use Prim.Native.Nat.{ℕ}
use native.Mathlib.Omega.{arith}
use mathlib.Core.Path.{ap}
use lib.ListN.{replicate}
use Rattle.splice.proofs.Laws.{◌⨾◌}
use Rattle.printing.proofs.Puts.{put_as}
use Rattle.size_lines.specs.Bars.{band_line}
use Rattle.size_lines.proofs.Laws.{bar_short}
use Rattle.size_lines.proofs.put_band.Goals as goal

pub put_followed-b-requires : goal.put_followed-b-requires
put_followed-b-requires c = omega (arith, c.put-a.ensures.goes)

pub put_followed-c-requires : goal.put_followed-c-requires
put_followed-c-requires c = omega (arith, c.put-a.ensures.goes)

pub fill-d-requires : goal.fill-d-requires
fill-d-requires c =
    let w = c in
    omega (arith, w.put-a.ensures.goes, w.marks_of-k.ensures.1)

pub put_octet-requires : goal.put_octet-requires
put_octet-requires c =
    let y = c in
    let x = y in
    let v = x in
    let w = v in
    let i = w in
    let bar = bar_short y.fill-d.ensures w.marks_of-k.ensures.1 in
    omega (arith, i.requires.1, i.requires.2, w.put-a.ensures.goes, v.put_followed-b.ensures.upper_bound, x.put_followed-c.ensures.upper_bound, bar)

pub returns : goal.returns
unfolding band_line
returns c =
    let z = c in
    let y = z in
    let x = y in
    let v = x in
    let w = v in
    let k = w.marks_of-k in
    let bar = y.fill-d.ensures in record {
      put = w.put-a.ensures ⨾ v.put_followed-b.ensures.put ⨾ x.put_followed-c.ensures.put
          ⨾ put_as (ap (λ (n : ℕ). replicate n 35) k.ensures.0) bar ⨾ z.put_octet.ensures;
      upper_bound = omega (arith, w.requires.1, w.put-a.ensures.goes, bar_short bar k.ensures.1, z.put_octet.ensures.goes);
    }
