-- `reason::reason_of` meets its contract: the check is that of the frame. Assumes nothing.
use mathlib.Core.Path.{sym, ap, ◌∙◌}
use mathlib.Core.List.{List}
use Prim.Native.Nat.{ℕ}
use Rattle.fcs.specs.Fcs.{fcs_of}
use Rattle.frame.specs.Frame.{covered}
use Rattle.outcome.proofs.Rules.{wrong-made}
use Rattle.reason.proofs.reason_of.Goals as goal

pub of_fcs-requires : goal.of_fcs-requires
of_fcs-requires c =
    c.requires.2 ∙ rw c.in-WrongFcs.is (sym (wrong-made _)) ∙ ap (λ (f : List ℕ). fcs_of (covered f)) (sym c.frame_of-f.ensures)
