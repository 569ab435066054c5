-- `station::bad_settings` meets its contract: each way out rewrites with the tests that led there. Assumes nothing.
use Rattle.std.proofs.Common.{le-ltb, lt-ltb, eq-eqb, ne_eqb}
use Rattle.station.specs.Station.{is_group, bad_settings}
use Rattle.station.proofs.bad_settings.Goals as goal

pub returns-then-lead-eq1 : goal.returns-then-lead-eq1
unfolding bad_settings is_group
returns-then-lead-eq1 c = simp (eq-eqb _ _ c.if-lead-eq1.true)

pub returns-then-s-lt-LEAST_LIMIT : goal.returns-then-s-lt-LEAST_LIMIT
unfolding bad_settings is_group
returns-then-s-lt-LEAST_LIMIT c = simp (ne_eqb _ _ c.if-lead-eq1.false, lt-ltb _ _ c.if-s-lt-LEAST_LIMIT.true)

pub returns : goal.returns
unfolding bad_settings is_group
returns c = simp (ne_eqb _ _ c.if-lead-eq1.false, le-ltb _ _ c.if-s-lt-LEAST_LIMIT.false)
