-- `sizes::add_counts` meets its contract: a turn is `count_next` of Laws. Assumes nothing.
use Rattle.std.proofs.Common.{ℕ, ◌+◌, List, length, get_or, sym, ap, ◌∙◌, add-one, arith, rules}
use Rattle.sizes.specs.Sizes.{raised}
use Rattle.sizes.specs.Steps.{together_from}
use Rattle.sizes.proofs.Laws.{length-raised, count_next, count-first, count-last}
use Rattle.sizes.proofs.add_counts.Goals as goal

pub loop-k-init : goal.loop-k-init
loop-k-init c = (search rules, search rules, count-first _ _)

pub loop-k-preserved : goal.loop-k-preserved
loop-k-preserved c =
    let l = c.loop-k in
    let b = c.args.b in
    let a = raised l.a l.k (get_or b l.k 0) in
    let turned = c.raise.ensures in (
      ap length turned ∙ length-raised l.a l.k (get_or b l.k 0) ∙ l.invariant.0,
      l.invariant.1,
      ap (λ (x : List ℕ). together_from (l.k + 1) x b) turned
          ∙ ap (λ (n : ℕ). together_from n a b) (add-one l.k)
          ∙ count_next l.k l.a b (omega arith) (omega arith)
          ∙ l.invariant.2,
    )

pub returns : goal.returns
returns c = let l = c.loop-k in sym (count-last l.k l.a _ (omega arith) (omega arith)) ∙ l.invariant.2
