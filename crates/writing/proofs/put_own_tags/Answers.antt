-- `writing::put_own_tags` meets its contract: no tags take no octets. Assumes nothing.
use Prim.Native.Nat.{ℕ}
use native.Mathlib.Omega.{arith}
use mathlib.Core.Path.{◌≡◌, refl}
use mathlib.Core.List.{List}
use lib.ListN.{take}
use Rattle.splice.specs.Written.{Put}
use Rattle.writing.specs.declared.Tag.{Tag}
use Rattle.writing.specs.Frames.{tag_octets}
use Rattle.writing.proofs.put_own_tags.Goals as goal

-- none written: the same place, over what was there
none : (l : List ℕ) (i n : ℕ) (ts : List Tag) → n ≡ 0 → Put l i (tag_octets (take n ts)) i l
unfolding tag_octets
none l i n ts e = rw e (record { goes = omega arith; holds = refl })

pub returns-then-client-eq0 : goal.returns-then-client-eq0
returns-then-client-eq0 c = none _ _ c.args.client.count c.args.client.tags c.if-client-eq0.true
