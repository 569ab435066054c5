-- `show` meets its contract: an octet after the other. Assumes nothing.
use native.Mathlib.Omega.{arith}
use native.Mathlib.Numerals.{add-one}
use Prim.Native.Nat.{ℕ, ◌+◌}
use mathlib.Core.Path.{◌≡◌, sym, ap, ◌∙◌}
use mathlib.Core.List.{[], ◌∷◌, ◌++◌}
use lib.ListN.{get_or, take}
use lib.Seq.{take-suc}
use Rattle.printing.proofs.Shows.{shown-then, shown_as}
use Rattle.printing.proofs.show.Goals as goal

pub loop-v-preserved : goal.loop-v-preserved
loop-v-preserved c =
    let src = c.args.src.now in
    let i = c.loop-v.v-index in
    let e : take i src ++ (get_or src i 0 ∷ []) ≡ take (i + 1) src = sym (take-suc src i 0 (omega arith)) ∙ ap (λ (k : ℕ). take k src) (sym (add-one i)) in
    (omega (arith, c.show_octet-to.ensures.goes), shown_as e (shown-then c.loop-v.invariant.1 c.show_octet-to.ensures))
