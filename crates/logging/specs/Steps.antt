-- Internal: the record of a Start, as the walk's code makes it: of the frame of its run and its outcome. No promise to a caller needs it.
use Rattle.std.specs.Prelude.{ℕ, ◌+◌, List, Option}
use Rattle.station.specs.declared.Address.{Address}
use Rattle.station.specs.declared.Settings.{Settings}
use Rattle.station.specs.declared.Outcome.{Outcome}
use Rattle.station.specs.Numbers.{outcome_number}
use Rattle.control.specs.Control.{way_carried}
use Rattle.outcome.specs.Status.{status}
use Rattle.receive.specs.Reading.{handed_part}
use Rattle.reading_log.specs.declared.Record.{Record}
use Rattle.logging.specs.Records.{record_at}

-- of a Start at place i whose frame is f
unfoldable pub record_of_frame : Settings → List (Option Address) → ℕ → List ℕ → Outcome → Record
record_of_frame s own i f o = record_at i (outcome_number o) (way_carried s own o f) (handed_part s o (i + 8) f).len (status s o f)
