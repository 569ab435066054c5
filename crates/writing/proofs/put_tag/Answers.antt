-- `writing::put_tag` meets its contract: two numbers, by `◌⨾◌`. Assumes nothing.
use native.Mathlib.Omega.{arith}
use mathlib.Core.Path.{ap}
use Rattle.splice.proofs.Laws.{◌⨾◌, put_as}
use Rattle.line.specs.Octets.{high_first}
use Rattle.writing.proofs.Sizes.{two}
use Rattle.writing.proofs.put_tag.Goals as goal

pub put_number-requires : goal.put_number-requires
put_number-requires c = omega (arith, rw two at c.put_number-a.ensures.goes)

pub returns : goal.returns
returns c = put_as (ap high_first c.from.ensures) c.put_number-a.ensures ⨾ c.put_number.ensures
