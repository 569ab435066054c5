-- `log::record_of` meets its contract: the numbers of the five fields, each where it stands. Assumes nothing.
use native.Mathlib.Omega.{arith}
use mathlib.Core.Path.{◌≡◌}
use lib.ListN.{get_or}
use Rattle.line.specs.Octets.{low_first}
use Rattle.reading_log.specs.Log.{record_of}
use Rattle.reading_log.proofs.record_of.Goals as goal

pub returns : goal.returns
unfolding record_of low_first
returns c =
    let s = c.args.s.now in
    let place : c.from_le_bytes.result ≡ low_first s 0 4 = omega (arith, c.from_le_bytes.ensures) in
    let outcome : get_or s 4 0 ≡ low_first s 4 1 = omega arith in
    let way : get_or s 5 0 ≡ low_first s 5 1 = omega arith in
    let handed : c.from_le_bytes-2.result ≡ low_first s 6 2 = omega (arith, c.from_le_bytes-2.ensures) in
    let status : c.from_le_bytes-3.result ≡ low_first s 8 8 = omega (arith, c.from_le_bytes-3.ensures) in
    (λ i. record { place = place i; outcome = outcome i; way = way i; handed = handed i; status = status i })
