-- `reason::right_ones` meets its contract: how many are right, k of which are passed, stays the same. Assumes nothing.
use native.Mathlib.Omega.{arith}
use Prim.Native.Nat.{ℕ}
use mathlib.Core.Path.{◌≡◌, refl, sym, ap, ◌∙◌}
use lib.ListN.{get_or}
use mathlib.Core.List.{List}
use Rattle.line.specs.Limits.{preamble_size}
use Rattle.line.specs.Line.{preamble}
use Rattle.reason.proofs.Laws.{right_start, right_turn, right_stop, right_end}
use Rattle.reason.proofs.right_ones.Goals as goal

pub loop-k-init : goal.loop-k-init
unfolding preamble
loop-k-init c = (refl, right_start _ _)

pub returns-then-run-k : goal.returns-then-run-k
unfolding preamble
returns-then-run-k c =
    let l = c.loop-k in
    let same = ap (λ (x : List ℕ). get_or x l.k 0) l.invariant.0 in
    (sym (l.invariant.1 ∙ right_stop _ _ _ (omega arith) (omega arith) (λ e. c.if-run-k.true (e ∙ sym same))), omega arith)

pub loop-k-preserved : goal.loop-k-preserved
unfolding preamble
loop-k-preserved c =
    let l = c.loop-k in
    let same = ap (λ (x : List ℕ). get_or x l.k 0) l.invariant.0 in
    (l.invariant.0, l.invariant.1 ∙ right_turn _ _ _ (omega arith) (omega arith) (c.if-run-k.false ∙ same))

pub returns : goal.returns
unfolding preamble
returns c =
    let l = c.loop-k in
    let e : l.k ≡ preamble_size = omega arith in
    (sym (l.invariant.1 ∙ right_end _ _ _ (omega arith) ∙ e), omega arith)
