-- `flow::set_named` meets its contract: a turn is `named_turn`. Assumes nothing.
use Rattle.std.proofs.Common.{arith, rules, ◌∙◌, ◌≤◌, length}
use mathlib.Core.List.{append-nil}
use lib.ListN.{drop_of_length-le}
use lib.Seq.{take_all}
use Rattle.flow.specs.Timers.{set_named}
use Rattle.flow.proofs.TimerLaws.{named_turn}
use Rattle.flow.proofs.set_named.Goals as goal

pub loop-k-preserved : goal.loop-k-preserved
loop-k-preserved c = record {
  eight = search rules;
  whole =
      named_turn c.args.f.now c.loop-k.classes c.loop-k.k c.loop-k.t-items (record { 0 = 0 }) c.set_one.result (omega arith) (search rules)
      ∙ c.loop-k.invariant.whole;
}

pub returns : goal.returns
unfolding set_named
returns c =
    let end : length c.loop-k.t-items ≤ c.loop-k.k = omega arith in
    rw (take_all, drop_of_length-le c.loop-k.t-items end, append-nil) at c.loop-k.invariant.whole
