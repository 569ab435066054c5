-- `flow::lower` meets its contract: what is lowered, and what is still to be lowered, make up the whole. Assumes nothing.
use Rattle.std.proofs.Common.{◌≡◌, ◌++◌, length, take, drop}
use Rattle.flow.specs.Timers.{lowered}
use Rattle.flow.proofs.lower.Given as goal

abbrev pub invariant-loop-t : goal.invariant-loop-t
invariant-loop-t l = record {
  eight : length l.t-items ≡ 8;
  whole : take l.t-index l.t-items ++ lowered l.n (drop l.t-index l.t-items) ≡ lowered l.n l.initial.t-items;
}
