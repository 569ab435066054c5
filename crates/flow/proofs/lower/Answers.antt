-- `flow::lower` meets its contract: a turn is `lowered_turn`. Assumes nothing.
use Rattle.std.proofs.Common.{arith, rules, ◌∙◌, ◌≡◌, ◌≤◌, ◌-◌, length, ap}
use mathlib.Core.List.{append-nil}
use lib.ListN.{drop_of_length-le}
use lib.Seq.{take_all}
use Rattle.flow.specs.Timers.{lowered}
use Rattle.flow.proofs.TimerLaws.{lowered_turn}
use Rattle.flow.proofs.lower.Goals as goal

pub loop-t-preserved : goal.loop-t-preserved
loop-t-preserved c =
    let by : c.unwrap_or-by.result ≡ c.args.n - (c.args.n - 4294967295) = search rules in
    record {
      eight = search rules;
      whole =
          lowered_turn c.args.n c.loop-t.t-index c.loop-t.t-items (record { 0 = 0 }) c.lower_one.result (omega arith)
          (ap (λ x. record { 0 = x }) (c.lower_one.ensures c.args.n by))
          ∙ c.loop-t.invariant.whole;
    }

pub returns : goal.returns
unfolding lowered
returns c =
    let end : length c.loop-t.t-items ≤ c.loop-t.t-index = omega arith in
    rw (take_all, drop_of_length-le, append-nil) at c.loop-t.invariant.whole
