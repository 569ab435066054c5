-- `station::bad_buffers` meets its contract: each way out rewrites with the test that led there. Assumes nothing.
use Rattle.std.proofs.Common.{eq-eqb, ne_eqb}
use Rattle.station.specs.Station.{bad_buffers}
use Rattle.station.proofs.bad_buffers.Goals as goal

pub returns-then-octets-marks : goal.returns-then-octets-marks
unfolding bad_buffers
returns-then-octets-marks c = simp (ne_eqb _ _ c.if-octets-marks.true)

pub returns : goal.returns
unfolding bad_buffers
returns c = simp (eq-eqb _ _ c.if-octets-marks.false)
