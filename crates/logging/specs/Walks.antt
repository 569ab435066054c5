-- Document 02, item 4: "Support wants the readings of a run kept." A walk from a place on that appends the record of each Start it counts, of a
-- job and by the address table (item 10).
use Rattle.std.specs.Prelude.{ℕ, zero, suc, ◌+◌, List, length, Result, Ok, Err}
use Rattle.line.specs.Table.{Table, ◌⇒◌, ◌∣◌, otherwise, first}
use Rattle.station.specs.declared.Settings.{Settings}
use Rattle.station.specs.declared.State.{State}
use Rattle.station.specs.declared.Refusal.TheVariants.{BadSettings, BadBuffers, BadPlace, BadJob, BadTable}
use Rattle.station.specs.Station.{bad_settings, bad_buffers, bad_place}
use Rattle.table.specs.declared.Entry.{Entry}
use Rattle.table.specs.Tests.{bad_job, bad_table}
use Rattle.reading_log.specs.declared.LogRefusal.TheVariants.{BadLog}
use Rattle.reading_log.specs.Log.{bad_log, Logging, appending}
use Rattle.receive.specs.declared.Answer.{Answer}
use Rattle.receive.specs.declared.Answer.TheVariants.{Counted}
use Rattle.receive.specs.declared.Reading.{Reading}
use Rattle.receive.specs.Reading.{reading}
use Rattle.logging.specs.declared.KeepRefusal.{KeepRefusal}
use Rattle.logging.specs.declared.KeepRefusal.TheVariants.{ByReading, ByLog}
use Rattle.logging.specs.declared.LogEnd.{LogEnd}
use Rattle.logging.specs.declared.LogEnd.TheVariants.{Nothing, Open, Full}
use Rattle.logging.specs.declared.LogWalk.{LogWalk}
use Rattle.logging.specs.Records.{record_of_reading}

-- what a walk gives, and the lent log after it: a record, so that a promise is one equation
pub record Keeping : Type 0 where
  pub given : LogWalk
  pub log : List ℕ

abbrev pub keeping : LogWalk → List ℕ → Keeping
keeping w l = record { given = w; log = l }

-- a walk that ends so, with this state and next place, n records appended to this log
abbrev pub stopped : LogEnd → State → ℕ → ℕ → List ℕ → Keeping
stopped e st next n l = keeping (record { end = e; state = st; next = next; kept = n }) l

-- reading after reading, each counted Start's record appended, until `none`, `open` or a log with "no unused record"; `most` readings at most. A Start
-- that finds no record is not counted: state and next place are those before its reading.
unfoldable pub keep_from : ℕ → Settings → ℕ → List Entry → State → List ℕ → List ℕ → ℕ → ℕ → List ℕ → Keeping
keep_from zero s job es st os ms place n l = stopped Nothing st place n l
keep_from (suc most) s job es st os ms place n l =
    let r : Reading = reading s job es st os ms place in
    let a : Logging = appending l (record_of_reading r) in
    elim r.answer [
      | Answer.Refused x ↦ stopped (LogEnd.Refused (ByReading x)) r.state r.next n l
      | Answer.Nothing ↦ stopped Nothing r.state r.next n l
      | Answer.Open ↦ stopped Open r.state r.next n l
      | Counted o w p v ↦ elim a.given [
        | Ok _ ↦ keep_from most s job es r.state os ms r.next (n + 1) a.log
        | Err x ↦ stopped Full st place n l
      ]
    ]

-- what the table of its refusals gives: the first that holds, or that the walk goes on
abbrev pub KeepChecked : Type 0
KeepChecked = Result (Unit {0}) KeepRefusal

-- 1, 14, 2, 3 and 20 as a reading at that place, then "11 log length no multiple of 16"
unfoldable pub keep_refusals : Settings → ℕ → List Entry → List ℕ → List ℕ → ℕ → List ℕ → Table KeepChecked
keep_refusals s job es os ms place l =
    bad_settings s ⇒ Err (ByReading BadSettings)
    ∣ bad_job job ⇒ Err (ByReading BadJob)
    ∣ bad_buffers os ms ⇒ Err (ByReading BadBuffers)
    ∣ bad_place os place ⇒ Err (ByReading BadPlace)
    ∣ bad_table es ⇒ Err (ByReading BadTable)
    ∣ bad_log l ⇒ Err (ByLog BadLog)
    ∣ otherwise (Ok tt)

-- a refused walk gives the state and the place it was given, and leaves the log; no capture has more Starts than symbols
unfoldable pub keep_checked : KeepChecked → Settings → ℕ → List Entry → State → List ℕ → List ℕ → ℕ → List ℕ → Keeping
keep_checked (Err x) s job es st os ms place l = stopped (LogEnd.Refused x) st place 0 l
keep_checked (Ok _) s job es st os ms place l = keep_from (length os + 1) s job es st os ms place 0 l

unfoldable pub walk_logged : Settings → ℕ → List Entry → State → List ℕ → List ℕ → ℕ → List ℕ → Keeping
walk_logged s job es st os ms place l = keep_checked (first (keep_refusals s job es os ms place l)) s job es st os ms place l
