-- The parts of a text, one after the other, are the text (`parts_whole`): what the printing programs write is what they print. Assumes nothing.
use Prim.Native.Nat.{ℕ, zero, suc, ◌+◌, ◌≤◌, ◌<◌}
use mathlib.Core.Path.{◌≡◌, sym, ◌∙◌}
use mathlib.Core.Bool.{true, false}
use mathlib.Core.List.{List, append-nil}
use native.Mathlib.Omega.{arith}
use lib.Dec.{eqb}
use lib.ListN.{length, drop, take-append-drop, length-drop, drop_of_length-le}
use lib.Seq.{take_all, drop-drop}
use borrow.Author.Tests.{eqb-false}
use Rattle.line.proofs.Symbols.{by_test}
use Rattle.printing.specs.Parts.{part, in_parts}
use Rattle.printing.proofs.Shows.{part-long}

module _ (room from left : ℕ) (text : List ℕ) where
  -- a part that fills the room, and those behind it
  more_parts : eqb (length (part room from text)) room ≡ true → in_parts left room (from + room) text ≡ drop (from + room) text
      → in_parts (suc left) room from text ≡ drop from text
  unfolding in_parts
  more_parts full rest = rw (full, rest, ← drop-drop room from text) (take-append-drop room (drop from text))

  -- one that does not
  last-part : eqb (length (part room from text)) room ≡ false → in_parts (suc left) room from text ≡ drop from text
  unfolding in_parts
  last-part short =
      let n = part-long room from text in
      let e = length-drop from text in
      let few : length (drop from text) ≤ room = omega (arith, eqb-false (length (part room from text)) room short) in
      rw short (append-nil (part room from text) ∙ take_all room (drop from text) few)

-- from any place on, where no more octets are left than parts
parts_from : (left room from : ℕ) (text : List ℕ) → 0 < room → length text < from + left → in_parts left room from text ≡ drop from text
unfolding in_parts
parts_from zero room from text some many = sym (drop_of_length-le text {i = from} (omega arith))
parts_from (suc left) room from text some many =
    by_test (eqb (length (part room from text)) room)
    (λ full. more_parts room from left text full (parts_from left room (from + room) text some (omega arith)))
    (λ short. last-part room from left text short)

pub parts_whole : (left room : ℕ) (text : List ℕ) → 0 < room → length text < left → in_parts left room 0 text ≡ text
parts_whole left room text some many = parts_from left room 0 text some (omega arith)
