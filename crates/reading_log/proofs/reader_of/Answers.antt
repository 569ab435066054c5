-- `log::reader_of` meets its contract: the reader keeps the slice itself. Assumes nothing.
use mathlib.Core.Path.{refl}
use Rattle.reading_log.specs.Readers.{reader_of}
use Rattle.reading_log.proofs.reader_of.Goals as goal

pub returns : goal.returns
unfolding reader_of
returns c = refl
