-- `writing::gap_for` meets its contract: each way out is a case of the definition (`shorter`, `longer`). Assumes nothing.
use mathlib.Core.Path.{◌≡◌, sym, ap, ◌∙◌}
use Prim.Native.Nat.{ℕ}
use Rattle.station.specs.declared.Port.{Port}
use Rattle.station.specs.declared.Port.TheVariants.{FourLane}
use Rattle.writing.specs.Gaps.{gap_at}
use Rattle.writing.proofs.GapLaws.{shorter, longer}
use Rattle.writing.proofs.gap_for.Goals as goal

four : (port : Port) (at count : ℕ) → port ≡ FourLane → gap_at FourLane at count ≡ gap_at port at count
four port at count e = ap (λ (p : Port). gap_at p at count) (sym e)

pub returns-in_default : goal.returns-in_default
unfolding gap_at
returns-in_default c = rw c.in_default.is

pub returns-then-count-r : goal.returns-then-count-r
returns-then-count-r c = shorter _ _ c.if-count-r.true ∙ four _ _ _ c.in-FourLane.is

pub returns : goal.returns
returns c = longer _ _ c.if-count-r.false ∙ four _ _ _ c.in-FourLane.is
