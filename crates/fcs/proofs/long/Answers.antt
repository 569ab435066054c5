-- `fcs::long` meets its contract: what the window leaves of the octets, by words.
-- Assumes nothing.
use mathlib.Core.Path.{refl, sym}
use Prim.Native.Nat.{◌≤◌}
use native.Mathlib.Omega.{arith}
use lib.ListN.{length, get_or-replicate}
use lib.Seq.{length-take-le}
use Rattle.fcs.proofs.long.Goals as goal

pub shorten-requires : goal.shorten-requires
shorten-requires c = (refl, (λ j h. get_or-replicate 1560 j 0 0 (omega arith)), omega arith)

pub slice_bounds-words-end : goal.slice_bounds-words-end
slice_bounds-words-end c =
    let w = c.shorten.new.w in sym (length-take-le 300 w (omega arith))

pub words-requires : goal.words-requires
words-requires c =
    let w = c.shorten.new.w in
    let room : 300 ≤ length w = omega arith in rw (length-take-le 300 w) (omega arith)
