-- `log::put_low` meets its contract. What is left to write is kept equal to the whole: a turn is `low_turn`.
-- Assumes nothing.
use native.Mathlib.Omega.{arith}
use Prim.Native.Nat.{◌-◌}
use mathlib.Core.Path.{◌≡◌, sym, ◌∙◌}
use Rattle.reading_log.specs.Log.{low_octets}
use Rattle.reading_log.proofs.Records.{length-low_octets, low_turn}
use Rattle.reading_log.proofs.put_low.Goals as goal

pub loop-j-preserved : goal.loop-j-preserved
loop-j-preserved c = sym (low_turn c.loop-j.dst c.args.at c.loop-j.j c.args.n c.loop-j.y (omega arith)) ∙ c.loop-j.invariant

pub returns-clause-holds : goal.returns-clause-holds
unfolding low_octets
returns-clause-holds c =
    let a = c.args in
    let e : c.loop-j.j ≡ a.n = omega arith in
    let z : a.n - c.loop-j.j ≡ 0 = omega arith in
    record { goes = rw (length-low_octets a.n a.x); holds = rw z at c.loop-j.invariant }
