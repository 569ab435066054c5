-- Document 02, item 12: what a reader keeps of a run that "keeps a run count, the first octets and a running FCS", and the rules of document 01 asked of
-- that. That they give what document 01's give of the run itself is proved in proofs/Keeps.antt. `own` is what a job has of the address table.
use Rattle.station.specs.Numbers.{Checked}
use Rattle.std.specs.Prelude.{ℕ, ◌+◌, ◌-◌, ◌*◌, ◌^◌, Bool, not, ◌&&◌, ◌||◌, List, drop, replicate, eqb, ltb, leb, Err, Ok, Option}
use Rattle.line.specs.Limits.{most_symbols, preamble_size, lead_size, least_frame, fcs_size}
use Rattle.line.specs.Octets.{same_octets}
use Rattle.line.specs.Table.{Table, ◌⇒◌, ◌∣◌, otherwise, first}
use Rattle.fcs.specs.Fcs.{fcs_octets}
use Rattle.station.specs.declared.Address.{Address}
use Rattle.station.specs.declared.Settings.{Settings}
use Rattle.station.specs.declared.Part.{Part}
use Rattle.station.specs.declared.Outcome.{Outcome}
use Rattle.station.specs.declared.Outcome.TheVariants.{Cut, BadPreamble, Undersized, Oversized, WrongFcs, WrongLength, Filtered, PauseTaken, PfcTaken, ControlDropped, HandedOut}
use Rattle.station.specs.declared.Refusal.TheVariants.{BadSettings, BadBuffers, BadJob, BadTable}
use Rattle.station.specs.Numbers.{by_outcome}
use Rattle.station.specs.Station.{bad_settings}
use Rattle.fields.specs.Tags.{tag_count}
use Rattle.fields.specs.Fields.{field, data_place}
use Rattle.table.specs.declared.Entry.{Entry}
use Rattle.table.specs.Tests.{bad_job, bad_table}
use Rattle.frame.specs.Frame.{over_limit}
use Rattle.frame.specs.Length.{kept, handed_count}
use Rattle.control.specs.Control.{takes_pause, takes_pfc, drops_control, frame_way, way_carried}
use Rattle.outcome.specs.Outcomes.{cut, bad_preamble}
use Rattle.outcome.specs.Status.{kind_bits, word_of}
use Rattle.receive.specs.Reading.{empty_part}
use Rattle.kept.specs.declared.Run.{Run}
use Rattle.kept.specs.declared.Told.{Told}
use Rattle.kept.specs.declared.Told.TheVariants.{Counted}

-- ---- what is kept: "a run count, the first octets and a running FCS"

-- of a run of no octets, behind a Start at place i; the register is "of all ones at the start"
unfoldable pub begun : ℕ → Run
begun i = record { start = i; count = 0; first = replicate 53 0; last = replicate fcs_size 0; register = 0xFFFF_FFFF }

-- the frame's first 46 octets: addresses, eight tags and the real field lie inside them, and all that a control frame says
unfoldable pub front_of : Run → List ℕ
front_of r = drop preamble_size r.first

-- how many octets the frame has, how many of them are data ("from after the field to before the FCS"), and how many are handed out
unfoldable pub frame_size : Run → ℕ
frame_size r = r.count - preamble_size

unfoldable pub data_octets : Run → ℕ
data_octets r = frame_size r - fcs_size - data_place (front_of r)

unfoldable pub handed_octets : Bool → Run → ℕ
handed_octets checking r = handed_count checking (field (front_of r)) (data_octets r)

-- ---- "the first rule that holds gives the outcome": document 01's table

-- rules 7 to 11, of a frame's first octets; rule 7 by the number of the address that lets it in, "0 not accepted" (item 7)
unfoldable pub later_outcomes : Settings → List (Option Address) → List ℕ → Table Outcome
later_outcomes s own f =
    eqb (frame_way s own f) 0 ⇒ Filtered
    ∣ takes_pause s f ⇒ PauseTaken
    ∣ takes_pfc s f ⇒ PfcTaken
    ∣ drops_control s f ⇒ ControlDropped
    ∣ otherwise HandedOut

-- rules 3 to 11
unfoldable pub frame_outcomes : Settings → List (Option Address) → Run → Table Outcome
frame_outcomes s own r =
    ltb (frame_size r) least_frame ⇒ Undersized
    ∣ over_limit s.limit (tag_count (front_of r)) (frame_size r) ⇒ Oversized
    ∣ not (same_octets r.last (fcs_octets (0xFFFF_FFFF - r.register))) ⇒ WrongFcs
    ∣ (s.checking && not (kept (tag_count (front_of r)) (field (front_of r)) (data_octets r))) ⇒ WrongLength
    ∣ later_outcomes s own (front_of r)

-- all of them, of a run ended by the control octet `by`
unfoldable pub kept_outcomes : Settings → List (Option Address) → Run → ℕ → Table Outcome
kept_outcomes s own r by = cut by ⇒ Cut ∣ (ltb r.count preamble_size || bad_preamble r.first) ⇒ BadPreamble ∣ frame_outcomes s own r

unfoldable pub kept_outcome : Settings → List (Option Address) → Run → ℕ → Outcome
kept_outcome s own r by = first (kept_outcomes s own r by)

-- ---- what is told of it

-- the status word: bits 38 to 16, and the whole
unfoldable pub kept_bits : Run → ℕ
kept_bits r = kind_bits (tag_count (front_of r)) (front_of r) + frame_size r * 2 ^ 16

unfoldable pub kept_word : Settings → Outcome → Run → ℕ
kept_word s o r = word_of o (kept_bits r) (data_octets r) (handed_octets s.checking r)

-- "the data's place and length in the capture, 0 and 0 for outcomes 1 to 10": of a frame that begins at place `at`, and of the run, whose frame begins
-- after the Start and the preamble
abbrev pub part_from : Outcome → ℕ → ℕ → ℕ → Part
part_from o at place octets = by_outcome o empty_part empty_part empty_part empty_part (record { at = at + place; len = octets })

unfoldable pub kept_part : Settings → Outcome → Run → Part
kept_part s o r = part_from o (r.start + lead_size) (data_place (front_of r)) (handed_octets s.checking r)

-- all of it, with item 7's number
unfoldable pub kept_told : Settings → List (Option Address) → Outcome → Run → Told
kept_told s own o r = Counted o (kept_word s o r) (kept_part s o r) (way_carried s own o (front_of r))

-- ---- "Refusals: 1, 14, 20 as in reading, then 2 for a symbol after 65,536 of them": of a symbol where so many were taken
unfoldable pub symbol_refusals : Settings → ℕ → List Entry → ℕ → Table Checked
symbol_refusals s job es taken =
    bad_settings s ⇒ Err BadSettings
    ∣ bad_job job ⇒ Err BadJob
    ∣ bad_table es ⇒ Err BadTable
    ∣ leb most_symbols taken ⇒ Err BadBuffers
    ∣ otherwise (Ok tt)
