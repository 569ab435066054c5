-- `writing::put_tags` meets its contract. The invariant: what is still to be written over what is written gives the whole. Assumes nothing.
use Rattle.std.proofs.Common.{◌≡◌, ◌+◌, ◌*◌, length, drop}
use lib.Seq.{sets}
use Rattle.writing.specs.Frames.{tag_octets}
use Rattle.writing.proofs.put_tags.Given as goal

abbrev pub invariant-loop-tag : goal.invariant-loop-tag
invariant-loop-tag l = record {
  long : length l.octets ≡ length l.initial.octets;
  goes : l.next ≡ l.at + 4 * l.tag-index;
  whole : sets l.octets l.next (tag_octets (drop l.tag-index l.tags)) ≡ sets l.initial.octets l.at (tag_octets l.tags);
}
