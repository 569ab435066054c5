-- `flow::set_named` meets its contract: what is set, and what is still to be set from the octets left, make up the whole. Assumes nothing.
use Rattle.std.proofs.Common.{◌≡◌, ◌+◌, ◌*◌, ◌++◌, length, take, drop, get_or}
use Rattle.flow.specs.Timers.{set_named}
use Rattle.flow.proofs.set_named.Given as goal

abbrev pub invariant-loop-k : goal.invariant-loop-k
invariant-loop-k l = record {
  eight : length l.t-items ≡ 8;
  whole :
      take l.k l.t-items ++ set_named l.classes (drop (18 + 2 * l.k) l.f) (drop l.k l.t-items)
      ≡ set_named (get_or l.f 17 0) (drop 18 l.f) l.initial.t-items;
}
