-- `log::extent_of` meets its contract. The last used one of the records before k is the last of all: `up_to_turn`. Assumes nothing.
use Prim.Native.Nat.{ℕ, suc, ◌-◌, ◌<◌}
use native.Mathlib.Omega.{arith}
use mathlib.Core.Path.{◌≡◌, refl, sym, ap, ◌∙◌}
use mathlib.Core.List.{List}
use Rattle.reading_log.specs.Log.{slots_in, slots, up_to_last, extent}
use Rattle.reading_log.proofs.Searches.{slot_used, slot_unused, up_to_stop, up_to_turn, up_to_none}
use Rattle.reading_log.proofs.extent_of.Goals as goal

-- k is one more than the record that is looked at
one_more : (l : List ℕ) (k : ℕ) → 0 < k → up_to_last (slots_in k l) ≡ up_to_last (slots_in (suc (k - 1)) l)
one_more l k h = ap (λ (i : ℕ). up_to_last (slots_in i l)) (let e : k ≡ suc (k - 1) = omega arith in e)

pub loop-last-init : goal.loop-last-init
unfolding extent slots
loop-last-init c = refl

pub returns-then-log-last-ne0 : goal.returns-then-log-last-ne0
returns-then-log-last-ne0 c =
    sym (c.loop-last.invariant ∙ one_more _ _ (omega arith) ∙ up_to_stop _ _ (slot_used _ _ c.if-log-last-ne0.true) ∙ omega arith)

pub loop-last-preserved : goal.loop-last-preserved
loop-last-preserved c = c.loop-last.invariant ∙ one_more _ _ (omega arith) ∙ up_to_turn _ _ (slot_unused _ _ c.if-log-last-ne0.false)

pub returns : goal.returns
returns c =
    let l = c.args.log.now in
    sym (c.loop-last.invariant ∙ ap (λ (k : ℕ). up_to_last (slots_in k l)) (let e : c.loop-last.last ≡ 0 = omega arith in e) ∙ up_to_none l)
