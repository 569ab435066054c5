-- Document 02, item 13: the size table for a day of captures.
use Rattle.station.specs.Numbers.{Checked}
use Rattle.std.specs.Prelude.{ℕ, ◌+◌, ◌-◌, ◌%◌, ◌^◌, Bool, true, false, cond, List, [], ◌∷◌, ◌++◌, replicate, nat_le, slice_index, slice_set, Err, Ok}
use Rattle.line.specs.Limits.{lead_size}
use Rattle.line.specs.Table.{Table, ◌⇒◌, ◌∣◌, otherwise, first}
use Rattle.station.specs.declared.Settings.{Settings}
use Rattle.station.specs.declared.Outcome.{Outcome}
use Rattle.station.specs.Numbers.{by_outcome}
use Rattle.station.specs.Station.{fresh}
use Rattle.table.specs.declared.Entry.{Entry}
use Rattle.receive.specs.declared.Answer.{Answer}
use Rattle.receive.specs.declared.Answer.TheVariants.{Nothing, Open, Counted}
use Rattle.receive.specs.declared.Reading.{Reading}
use Rattle.receive.specs.Reading.{read_refusals}
use Rattle.receive.specs.Walk.{walk}
use Rattle.sizes.specs.declared.SizeTable.{SizeTable}
use Rattle.sizes.specs.declared.Added.{Added}

-- ---- one frame

-- "frames of outcomes 8 to 11"
unfoldable pub sized : Outcome → Bool
sized o = by_outcome o false true true true true

-- "64, 65 to 127, 128 to 255, 256 to 511, 512 to 1023, 1024 to 1518, above": the band of a frame length. No frame is shorter than 64 octets.
unfoldable pub bands : ℕ → Table ℕ
bands n =
    nat_le n 64 ⇒ 0
    ∣ nat_le n 127 ⇒ 1
    ∣ nat_le n 255 ⇒ 2
    ∣ nat_le n 511 ⇒ 3
    ∣ nat_le n 1023 ⇒ 4
    ∣ nat_le n 1518 ⇒ 5
    ∣ otherwise 6

unfoldable pub band : ℕ → ℕ
band n = first (bands n)

-- "Counts are 64 bits and roll over"
abbrev pub count_size : ℕ
count_size = 2 ^ 64

-- counts of which the one at i rises by n
unfoldable pub raised : List ℕ → ℕ → ℕ → List ℕ
raised counts i n = slice_set counts i ((slice_index counts i + n) % count_size)

-- "by frame length …, and the octets in each band": a table with one frame more, of n octets
unfoldable pub with_frame : SizeTable → ℕ → SizeTable
with_frame t n = record { frames = raised t.frames (band n) 1; octets = raised t.octets (band n) n }

-- and with frames more, of these lengths
unfoldable pub with_frames : SizeTable → List ℕ → SizeTable
with_frames t [] = t
with_frames t (n ∷ ns) = with_frames (with_frame t n) ns

-- a table with nothing in it
unfoldable pub fresh_sizes : SizeTable
fresh_sizes = record { frames = replicate 7 0; octets = replicate 7 0 }

-- ---- a capture

-- the frame lengths of readings: none of a Start that is open, and of one that is counted with outcome 8 to 11 what stands behind the Start and the
-- seven octets of the preamble, up to the next place (destination to FCS)
unfoldable pub length_by : Answer → ℕ → List ℕ
length_by (Answer.Refused x) n = []
length_by Nothing n = []
length_by Open n = []
length_by (Counted o w p v) n = cond (sized o) (n ∷ []) []

unfoldable pub frame_lengths : List Reading → List ℕ
frame_lengths [] = []
frame_lengths (r ∷ rs) = length_by r.answer (r.next - (r.start + lead_size)) ++ frame_lengths rs

-- "a refused capture adds nothing"; else the frames of its whole walk. No outcome depends on the state, so any serves.
unfoldable pub add_checked : Checked → SizeTable → Settings → ℕ → List Entry → List ℕ → List ℕ → Added
add_checked (Err x) t s job es os ms = record { answer = Err x; sizes = t }
add_checked (Ok _) t s job es os ms = record { answer = Ok tt; sizes = with_frames t (frame_lengths (walk s job es fresh os ms)) }

-- "Add up, over any number of captures": one of them, refused as a walk is
unfoldable pub adding : SizeTable → Settings → ℕ → List Entry → List ℕ → List ℕ → Added
adding t s job es os ms = add_checked (first (read_refusals s job es os ms 0)) t s job es os ms

-- ---- two tables

-- "Add up", for two tables: each count with its own
unfoldable pub together : List ℕ → List ℕ → List ℕ
together [] l = []
together (a ∷ k) [] = []
together (a ∷ k) (b ∷ l) = (a + b) % count_size ∷ together k l

unfoldable pub add_tables : SizeTable → SizeTable → SizeTable
add_tables t u = record { frames = together t.frames u.frames; octets = together t.octets u.octets }
