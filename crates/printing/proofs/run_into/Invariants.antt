-- The parts so far are the front of all that is printed, and the writer got them; a part that did not fill the room was the last. The measure is what is
-- left, and the part before.
use Rattle.std.proofs.Common.{◌≢◌, ◌+◌, ◌-◌, ◌≤◌, length, take}
use Rattle.std.specs.Io.KnownBytes.{Appends}
use Rattle.printing.proofs.run_into.Given as goal

abbrev pub invariant-loop-k : goal.invariant-loop-k
invariant-loop-k g l =
    let text = g.P.Output.text (take l.n l.input) in
    record {
      inside : l.from ≤ g.P.Output.most;
      front : Appends (g.W.Write.contents l.initial.writer) (g.W.Write.contents l.writer) (take l.from text);
      last : l.k ≢ 131072 → length text ≤ l.from;
    }

abbrev pub decreases-loop-k : goal.decreases-loop-k
decreases-loop-k g l = g.P.Output.most - l.from + l.k
