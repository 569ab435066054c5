-- `why_lines::put_hex` meets its contract: one write after the other. Assumes nothing.
use native.Mathlib.Omega.{arith}
use Rattle.splice.proofs.Laws.{◌⨾◌}
use Prim.Native.Nat.{ℕ}
use mathlib.Core.Path.{ap₂}
use mathlib.Core.List.{[], ◌∷◌}
use Rattle.printing.proofs.Puts.{put_as}
use Rattle.why_lines.specs.Hex.{hex_octet}
use Rattle.why_lines.proofs.put_hex.Goals as goal

pub returns : goal.returns
unfolding hex_octet
returns c =
    let is = ap₂ (λ (a b : ℕ). a ∷ b ∷ []) c.hex_digit-high.ensures c.hex_digit-low.ensures in
    record { put = put_as is (c.put_octet-a.ensures ⨾ c.put_octet.ensures); value = omega (arith, c.put_octet-a.ensures.goes, c.put_octet.ensures.goes) }
