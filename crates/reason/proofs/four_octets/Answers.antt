-- `reason::four_octets` meets its contract. Assumes nothing.
use native.Mathlib.Omega.{arith}
use Rattle.reason.proofs.Laws.{low_four}
use Rattle.reason.proofs.four_octets.Goals as goal

pub returns : goal.returns
returns c =
    let a = c.args in
    omega (arith, c.from_le_bytes.ensures, low_four a.f.now a.e, c.octet.ensures, c.octet-2.ensures, c.octet-3.ensures, c.octet-4.ensures)
