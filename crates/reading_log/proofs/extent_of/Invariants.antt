-- `log::extent_of` meets its contract. The last used one of the records before `last` is the last of all: `up_to_turn`. Assumes nothing.
use mathlib.Core.Path.{◌≡◌}
use Rattle.reading_log.specs.Log.{slots_in, up_to_last, extent}
use Rattle.reading_log.proofs.extent_of.Given as goal

abbrev pub invariant-loop-last : goal.invariant-loop-last
invariant-loop-last l = extent l.log ≡ up_to_last (slots_in l.last l.log)
