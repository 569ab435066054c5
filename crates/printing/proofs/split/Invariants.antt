-- `split` meets its contract: with the records left, each buffer is whole. Assumes nothing.
use Prim.Native.Nat.{◌*◌}
use lib.ListN.{drop}
use Rattle.printing.specs.Lines.{record_octets, record_marks}
use Rattle.printing.proofs.Puts.{Rest}
use Rattle.printing.proofs.split.Given as goal

abbrev pub invariant-loop-k : goal.invariant-loop-k
invariant-loop-k l =
    Rest l.initial.octets (record_octets l.input) l.octets l.k (record_octets (drop (2 * l.k) l.input))
    × Rest l.initial.marks (record_marks l.input) l.marks l.k (record_marks (drop (2 * l.k) l.input))
