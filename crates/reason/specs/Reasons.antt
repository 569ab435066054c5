-- Document 02, item 8: why a Start has its outcome, with the evidence. `own` is what the job has of the address table (item 10).
use Rattle.station.specs.Numbers.{Checked}
use Rattle.std.specs.Prelude.{ℕ, ◌+◌, ◌-◌, ◌*◌, Bool, true, false, List, [], ◌∷◌, length, drop, eqb, ltb, Err, None, Ok, Option, Some}
use Rattle.line.specs.Limits.{preamble_size, lead_size, least_frame, tag_size, fcs_size}
use Rattle.line.specs.Line.{Symbol, capture, find_start, AfterStart, unended, ended, after_start, preamble}
use Rattle.line.specs.Octets.{low_first}
use Rattle.line.specs.Table.{first}
use Rattle.fcs.specs.Fcs.{fcs_of}
use Rattle.station.specs.declared.Address.{Address}
use Rattle.station.specs.declared.Settings.{Settings}
use Rattle.station.specs.declared.Outcome.{Outcome}
use Rattle.station.specs.declared.Outcome.TheVariants.{Cut, BadPreamble, Undersized, Oversized, WrongFcs, WrongLength, Filtered, PauseTaken, PfcTaken, ControlDropped, HandedOut}
use Rattle.fields.specs.Tags.{tag_count}
use Rattle.fields.specs.Fields.{field, data_place}
use Rattle.frame.specs.Frame.{frame_data, covered}
use Rattle.frame.specs.Length.{handed_length}
use Rattle.table.specs.declared.Entry.{Entry}
use Rattle.table.specs.Entries.{mine, address_at}
use Rattle.control.specs.Control.{opcode}
use Rattle.outcome.specs.Outcomes.{outcome, frame_of}
use Rattle.receive.specs.Reading.{read_refusals}
use Rattle.reason.specs.declared.Reason.{Reason}
use Rattle.reason.specs.declared.Reason.TheVariants.{CutAt, ShortRun, WrongOctet, TooShort, TooLong, FcsDiffers, LengthBroken, NotForUs, TookPause, TookPfc, DroppedControl, Handed}
use Rattle.reason.specs.declared.Why.{Why}
use Rattle.reason.specs.declared.Why.TheVariants.{Open, Because}
use Rattle.reason.specs.declared.Explained.{Explained}

-- ---- The evidence

-- how many octets stand right before the first that is not as in the other list
unfoldable pub right_ones : List ℕ → List ℕ → ℕ
right_ones [] ys = 0
right_ones (x ∷ xs) [] = 0
right_ones (x ∷ xs) (y ∷ ys) = elim (eqb x y) [ true ↦ 1 + right_ones xs ys | false ↦ 0 ]

-- "for bad preamble, the run's length if under 7, else the first wrong place": of a run whose first octet stands at place `at`
unfoldable pub preamble_reason : ℕ → List ℕ → Reason
preamble_reason at run = elim (ltb (length run) preamble_size) [ true ↦ ShortRun (length run) | false ↦ WrongOctet (at + right_ones run preamble) ]

-- the FCS that stands in a frame: its last four octets as a number, "low octet first"
unfoldable pub received : List ℕ → ℕ
received f = low_first f (length f - fcs_size) fcs_size

-- "for sizes, length and limit": oversized
unfoldable pub long_reason : ℕ → List ℕ → Reason
long_reason m f = TooLong (length f) (m + tag_size * tag_count f)

-- "for FCS, both values": the one that stands there, and the one computed
unfoldable pub fcs_reason : List ℕ → Reason
fcs_reason f = FcsDiffers (received f) (fcs_of (covered f))

-- "for length, field and data length"
unfoldable pub length_reason : List ℕ → Reason
length_reason f = LengthBroken (field f) (length (frame_data f))

-- "for 11, place and length of the data": of a frame that begins at place `at`
unfoldable pub handed_reason : Bool → ℕ → List ℕ → Reason
handed_reason checking at f = Handed (at + data_place f) (handed_length checking f)

-- "for cut, the place and octet of the ending symbol; …; for filtered, the destination; for 8 to 10, the opcode": of a Start at place i, whose run is
-- ended by the control octet `by`
unfoldable pub reason_for : Settings → ℕ → List ℕ → ℕ → Outcome → Reason
reason_for s i run by Cut = CutAt (i + 1 + length run) by
reason_for s i run by BadPreamble = preamble_reason (i + 1) run
reason_for s i run by Undersized = TooShort (length (frame_of run)) least_frame
reason_for s i run by Oversized = long_reason s.limit (frame_of run)
reason_for s i run by WrongFcs = fcs_reason (frame_of run)
reason_for s i run by WrongLength = length_reason (frame_of run)
reason_for s i run by Filtered = NotForUs (address_at (frame_of run) 0)
reason_for s i run by PauseTaken = TookPause (opcode (frame_of run))
reason_for s i run by PfcTaken = TookPfc (opcode (frame_of run))
reason_for s i run by ControlDropped = DroppedControl (opcode (frame_of run))
reason_for s i run by HandedOut = handed_reason s.checking (i + lead_size) (frame_of run)

-- "a tool names the outcome's reason"
unfoldable pub reason_of : Settings → List (Option Address) → ℕ → List ℕ → ℕ → Reason
reason_of s own i run by = reason_for s i run by (outcome s own run by)

-- ---- The call: "The Start is found from a place as in reading", "with the next place equal to the reading's"

-- "`none` and `open` have no reason"
unfoldable pub explain_start : Settings → List (Option Address) → ℕ → AfterStart → Explained
explain_start s own i unended = record { answer = Open; start = i; next = i }
explain_start s own i (ended run by) = record { answer = Because (reason_of s own i run by); start = i; next = i + 1 + length run }

unfoldable pub explain_found : Settings → List (Option Address) → List Symbol → Option ℕ → Explained
explain_found s own c None = record { answer = Why.Nothing; start = length c; next = length c }
explain_found s own c (Some i) = explain_start s own i (after_start (drop (i + 1) c))

-- "Refusals: 1 to 3 as in reading." Item 10: "Item 8's tool gives 14 and 20 as reading does."
unfoldable pub explain_checked : Checked → Settings → List (Option Address) → List ℕ → List ℕ → ℕ → Explained
explain_checked (Err x) s own os ms place = record { answer = Why.Refused x; start = place; next = place }
explain_checked (Ok _) s own os ms place = explain_found s own (capture os ms) (find_start (capture os ms) place)

unfoldable pub explained : Settings → ℕ → List Entry → List ℕ → List ℕ → ℕ → Explained
explained s job es os ms place = explain_checked (first (read_refusals s job es os ms place)) s (mine job es) os ms place
