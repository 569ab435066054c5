-- `writing::put_quanta` meets its contract: a turn is `quanta_turn`. Assumes nothing.
use native.Mathlib.Omega.{arith}
use mathlib.Core.Path.{◌≡◌, sym, ◌∙◌}
use lib.ListN.{length}
use Rattle.line.specs.Octets.{high_first}
use Rattle.splice.proofs.Laws.{put-length}
use Rattle.writing.proofs.Pieces.{quanta_turn, quanta_end}
use Rattle.writing.proofs.Sizes.{quanta_size}
use borrow.Author.Rules.{rules}
use Rattle.writing.proofs.put_quanta.Goals as goal

pub loop-q-preserved : goal.loop-q-preserved
unfolding high_first
loop-q-preserved c =
    let eight : length c.args.quanta ≡ 8 = search rules in
    record {
      long = omega (arith, put-length c.put_number-next.ensures);
      goes = omega (arith, c.put_number-next.ensures.goes);
      whole =
          quanta_turn c.loop-q.left c.loop-q.q-index c.args.quanta (record { 0 = 0 }) (omega arith) c.quanta_sent.ensures c.put_number-next.ensures
          ∙ c.loop-q.invariant.whole;
    }

pub returns : goal.returns
returns c =
    let eight : length c.args.quanta ≡ 8 = search rules in
    record {
      goes = omega (arith, quanta_size c.args.named c.args.quanta);
      holds = sym (quanta_end _ _ c.loop-q.left c.loop-q.q-index c.args.quanta (omega arith)) ∙ c.loop-q.invariant.whole;
    }
