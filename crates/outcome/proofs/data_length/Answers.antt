-- `outcome::data_length` meets its contract. Assumes nothing.
use lib.ListN.{length}
use mathlib.Core.Path.{ap}
use native.Mathlib.Omega.{arith}
use Rattle.frame.proofs.Length.{data_length}
use Rattle.outcome.proofs.data_length.Goals as goal

pub returns : goal.returns
returns c =
    let a = c.args in
    let e = ap length c.frame_data.ensures in
    (e, omega (arith, data_length a.place a.f.now))
