-- `largest_of` meets its contract: what was looked at is what stands before the index. Assumes nothing.
use native.Mathlib.Omega.{arith}
use native.Mathlib.Numerals.{add-one}
use Prim.Native.Nat.{ℕ, ◌+◌, max}
use mathlib.Core.Path.{◌≡◌, refl, sym, ap, ◌∙◌}
use mathlib.Core.List.{[], ◌∷◌, ◌++◌}
use lib.ListN.{length, get_or, take}
use lib.Seq.{take-suc, take-length}
use Rattle.size_lines.specs.Bars.{largest}
use Rattle.size_lines.proofs.Laws.{largest_snoc}
use Rattle.size_lines.proofs.largest_of.Goals as goal

pub loop-n-init : goal.loop-n-init
unfolding largest
loop-n-init c = refl

pub loop-n-preserved : goal.loop-n-preserved
loop-n-preserved c =
    let counts = c.args.counts in
    let i = c.loop-n.n-index in
    let x = get_or counts i 0 in
    let e : take i counts ++ (x ∷ []) ≡ take (i + 1) counts = sym (take-suc counts i 0 (omega arith)) ∙ ap (λ (k : ℕ). take k counts) (sym (add-one i)) in
    let m : c.max-most.result ≡ max c.loop-n.most x = omega arith in
    m ∙ ap (λ (k : ℕ). max k x) c.loop-n.invariant ∙ sym (largest_snoc (take i counts) x) ∙ ap largest e

pub returns : goal.returns
returns c =
    let counts = c.args.counts in
    let e : c.loop-n.n-index ≡ length counts = omega arith in
    c.loop-n.invariant ∙ ap (λ (k : ℕ). largest (take k counts)) e ∙ ap largest (take-length counts)
