-- `writing::put_quanta` meets its contract. The invariant: what is still to be written over what is written gives the whole. Assumes nothing.
use Rattle.std.proofs.Common.{◌≡◌, ◌+◌, ◌*◌, length, drop}
use lib.Seq.{sets}
use Rattle.writing.specs.Frames.{class_quanta}
use Rattle.writing.proofs.put_quanta.Given as goal

abbrev pub invariant-loop-q : goal.invariant-loop-q
invariant-loop-q l = record {
  long : length l.octets ≡ length l.initial.octets;
  goes : l.next ≡ l.at + 2 * l.q-index;
  whole :
      sets l.octets l.next (class_quanta l.left (drop l.q-index l.q-items))
      ≡ sets l.initial.octets l.at (class_quanta l.named l.initial.q-items);
}
