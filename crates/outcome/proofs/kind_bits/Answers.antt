-- `outcome::kind_bits` meets its contract: one sum, its terms one by one. Assumes nothing.
use mathlib.Core.Path.{◌≡◌, sym, ap, ◌∙◌}
use mathlib.Core.Bool.{Bool, not, ◌&&◌}
use native.Mathlib.Omega.{arith}
use Rattle.outcome.specs.Status.{bit, kind_bits}
use Rattle.outcome.proofs.kind_bits.Goals as goal
use Rattle.outcome.proofs.kind_bits.Goals.{then-group, else-group}

pub returns : goal.returns
unfolding kind_bits bit
returns c =
    let other = not c.is_broadcast-broadcast.result in
    let multicast : c.if-group.flag ≡ (c.to_group-group.result && other) =
    elim c.if-group.branch [
      | then-group w ↦ w.flag-is ∙ sym (ap (λ (b : Bool). b && other) w.if-group.true)
      | else-group w ↦ w.flag-is ∙ w.if-group.false ∙ sym (ap (λ (b : Bool). b && other) w.if-group.false)
    ] in (
      rw (
        c.flag-b32.ensures.0,
        c.flag-b33.ensures.0,
        c.flag-b34.ensures.0,
        c.flag-b36.ensures.0,
        c.flag-b37.ensures.0,
        c.flag-b38.ensures.0,
        multicast,
        c.is_control_frame.ensures,
        c.is_broadcast-broadcast.ensures,
        c.to_group-group.ensures,
      ),
      omega arith,
    )
