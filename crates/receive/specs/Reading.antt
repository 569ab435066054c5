-- Document 01, "Reading one Start" and, for reading, "Refusals and their order": what a reading gives, exact for refusals too. Document 02, item 10: a
-- reading is of a job, 0 or 1, and goes by the address table `es`; behind the refusals it sees `own`, the job's own entries, and nothing else of the table.
use Rattle.station.specs.Numbers.{Checked}
use Rattle.std.specs.Prelude.{ℕ, ◌+◌, ◌-◌, cond, ◌&&◌, List, [], length, take, drop, nat_le, Err, None, Ok, Option, Some}
use Rattle.line.specs.Limits.{lead_size}
use Rattle.line.specs.Line.{Symbol, capture, find_start, AfterStart, unended, ended, after_start}
use Rattle.line.specs.Table.{Table, ◌⇒◌, ◌∣◌, otherwise, first}
use Rattle.station.specs.declared.Address.{Address}
use Rattle.station.specs.declared.Settings.{Settings}
use Rattle.station.specs.declared.State.{State}
use Rattle.station.specs.declared.Part.{Part}
use Rattle.station.specs.declared.Outcome.{Outcome}
use Rattle.station.specs.declared.Refusal.TheVariants.{BadSettings, BadBuffers, BadPlace, BadJob, BadTable}
use Rattle.station.specs.Numbers.{by_outcome}
use Rattle.station.specs.Station.{bad_settings, bad_buffers, bad_place, counted, with_counters, with_timers}
use Rattle.fields.specs.Fields.{data_place}
use Rattle.frame.specs.Length.{handed_length}
use Rattle.table.specs.declared.Entry.{Entry}
use Rattle.table.specs.Entries.{mine}
use Rattle.table.specs.Tests.{bad_job, bad_table}
use Rattle.control.specs.Control.{way_carried}
use Rattle.flow.specs.Timers.{timers_after}
use Rattle.receive.specs.declared.Answer.{Answer}
use Rattle.receive.specs.declared.Answer.TheVariants.{Open, Counted}
use Rattle.receive.specs.declared.Reading.{Reading}
use Rattle.outcome.specs.Outcomes.{outcome, frame_of}
use Rattle.outcome.specs.Status.{status}

-- ---- Reading one Start

-- the state after a Start with this outcome, whose frame is `f`: its counter rises, and a control frame may set timers
unfoldable pub state_after : Outcome → List ℕ → State → State
state_after o f st = with_timers (timers_after o f st.timers) (with_counters (counted o st.counters) st)

abbrev pub empty_part : Part
empty_part = record { at = 0; len = 0 }

-- "Client data is a part of the captured octets themselves", of a frame `f` that begins at place `at`; "Outcomes 1 to 10 hand out an empty part."
unfoldable pub handed_part : Settings → Outcome → ℕ → List ℕ → Part
handed_part s o at f =
    by_outcome o empty_part empty_part empty_part empty_part (record { at = at + data_place f; len = handed_length s.checking f })

-- "Else the next place is that of the ending control symbol": a Start at place i, and the outcome of its run. The frame begins after the Start and
-- the preamble. Document 02, item 7: "The reading carries the number" of the address that let the frame in.
unfoldable pub read_run : Settings → List (Option Address) → State → ℕ → List ℕ → Outcome → Reading
read_run s own st i run o =
    record {
      answer = Counted o (status s o (frame_of run)) (handed_part s o (i + lead_size) (frame_of run)) (way_carried s own o (frame_of run));
      start = i;
      next = i + 1 + length run;
      state = state_after o (frame_of run) st;
    }

-- "If there is no such symbol, the answer is `open`, nothing is counted, and the next place is that Start's."
unfoldable pub read_start : Settings → List (Option Address) → State → ℕ → AfterStart → Reading
read_start s own st i unended = record { answer = Open; start = i; next = i; state = st }
read_start s own st i (ended run by) = read_run s own st i run (outcome s own run by)

-- "A capture with no further Start gives `none` and the capture's length as both places."
unfoldable pub read_found : Settings → List (Option Address) → State → List Symbol → Option ℕ → Reading
read_found s own st c None = record { answer = Answer.Nothing; start = length c; next = length c; state = st }
read_found s own st c (Some i) = read_start s own st i (after_start (drop (i + 1) c))

-- "A reading at a place finds the first Start at that place or later."
unfoldable pub read_at : Settings → List (Option Address) → State → List Symbol → ℕ → Reading
read_at s own st c place = read_found s own st c (find_start c place)

-- ---- Refusals and their order

-- "Lowest number first"; "Reading can give 1 to 3". Item 10: "14 job above 1, tested right after 1; 2 and 3 then look at the chosen job's capture; 20 a
-- table where a job holds above 12 or has an address twice"
unfoldable pub read_refusals : Settings → ℕ → List Entry → List ℕ → List ℕ → ℕ → Table Checked
read_refusals s job es os ms place =
    bad_settings s ⇒ Err BadSettings
    ∣ bad_job job ⇒ Err BadJob
    ∣ bad_buffers os ms ⇒ Err BadBuffers
    ∣ bad_place os place ⇒ Err BadPlace
    ∣ bad_table es ⇒ Err BadTable
    ∣ otherwise (Ok tt)

-- "A refusal gives its number, status 0, an empty part, the place it was called with (in a reading, as both places), the old state"
unfoldable pub read_checked : Checked → Settings → List (Option Address) → State → List ℕ → List ℕ → ℕ → Reading
read_checked (Err x) s own st os ms place = record { answer = Answer.Refused x; start = place; next = place; state = st }
read_checked (Ok _) s own st os ms place = read_at s own st (capture os ms) place

-- a reading, of any job, table, octets, marks and place
unfoldable pub reading : Settings → ℕ → List Entry → State → List ℕ → List ℕ → ℕ → Reading
reading s job es st os ms place = read_checked (first (read_refusals s job es os ms place)) s (mine job es) st os ms place

-- ---- Client data: "a call of its own may hand out that part"

-- the octets of a part; none where it does not lie inside the octets, which a reading's part always does
unfoldable pub part_of : List ℕ → Part → List ℕ
part_of os p = cond (nat_le p.at (length os) && nat_le p.len (length os - p.at)) (take p.len (drop p.at os)) []
