-- Document 02, item 5, "The four-lane port": what the claims on it speak of. The theorems are proofs/Port.antt.
use Rattle.std.specs.Prelude.{ℕ, ◌+◌, ◌-◌, ◌*◌, ◌%◌, ◌≤◌, ◌≡◌, Bool, true, false, not, cond, ◌&&◌, List, [], ◌∷◌, ◌++◌, ◌⊎◌, length}
use Rattle.line.specs.Limits.{full_gap, most_deficit, lanes}
use Rattle.line.specs.Line.{Symbol, is_control, is_start, met_starts}
use Rattle.station.specs.declared.Port.{Port}
use Rattle.station.specs.declared.Port.TheVariants.{Plain, FourLane}
use Rattle.station.specs.declared.State.{State}
use Rattle.counting.specs.Claims.{Sends, sends_client, sends_pause, sends_pfc, fills_idle, place_of}
use Rattle.mac.specs.Demand2.{start_places}
use Rattle.mac.specs.Calls.{Call, reads, walks, keeps, takes, sends, counts, asks_such, after_call, writes}

abbrev pub is_four_lane : Port → Bool
is_four_lane Plain = false
is_four_lane FourLane = true

-- a call sends a frame on this port, without totals or with them
unfoldable pub on_four_lanes : Sends → Bool
on_four_lanes (sends_client s port place c d) = is_four_lane port
on_four_lanes (sends_pause s port place q) = is_four_lane port
on_four_lanes (sends_pfc s port place k) = is_four_lane port
on_four_lanes (fills_idle place n) = false

unfoldable pub on_port : Call → Bool
on_port c = asks_such on_four_lanes c

-- the place from which on a call writes; those that read write nothing
unfoldable pub writes_from : Call → ℕ
writes_from (reads s job es os ms p) = p
writes_from (walks s job es os ms) = 0
writes_from (keeps s job es os ms p l) = p
writes_from (takes s job es at running run x) = at
writes_from (sends os ms c) = place_of c
writes_from (counts l c) = place_of c

-- ---- "Its gaps, Terminate included": of the symbols that were written

-- of the symbols of a frame, how many are its gap: the control symbols but for the Start
unfoldable pub gap_size : List Symbol → ℕ
gap_size [] = 0
gap_size (x ∷ l) = cond (is_control x && not (is_start x)) 1 0 + gap_size l

-- the gaps that a call writes on this port, one for a frame and none where nothing is written; and a sequence of calls
unfoldable pub gap_of_frame : List Symbol → List ℕ
gap_of_frame [] = []
gap_of_frame (x ∷ l) = gap_size (x ∷ l) ∷ []

unfoldable pub gaps_of : State → Call → List ℕ
gaps_of st c = cond (on_port c) (gap_of_frame (writes st c)) []

unfoldable pub all_gaps : State → List Call → List ℕ
all_gaps st [] = []
all_gaps st (c ∷ cs) = gaps_of st c ++ all_gaps (after_call st c) cs

-- ---- what is claimed

-- of a frame that goes out on this port from a place on, its symbols and the state that it leaves
pub record GoesOut (st : State) (place : ℕ) (new : List Symbol) (after : State) : Type 0 where
  -- "accepts Start only at places divisible by four": the one Start that is written stands at the place, and that is divisible
  pub starts : start_places (met_starts place new) ≡ place ∷ []
  pub aligned : place % lanes ≡ 0
  -- where the frame ends, with its gap, the next one may start
  pub ends : (place + length new) % lanes ≡ 0
  -- "a deficit count from 0 to 3", before and after it
  pub count : st.deficit ≤ most_deficit
  pub next-count : after.deficit ≤ most_deficit
  -- what the gap is short of 12 is added to the count, and what it is longer is taken off
  pub missing : gap_size new + after.deficit ≡ full_gap + st.deficit
  pub least : full_gap - most_deficit ≤ gap_size new
  pub most : gap_size new ≤ full_gap + most_deficit

-- of a call on this port: it writes nothing and leaves the state, or its frame goes out
abbrev pub OutOrNot : State → Call → Type 0
OutOrNot st c = ((writes st c ≡ []) × (after_call st c ≡ st)) ⊎ GoesOut st (writes_from c) (writes st c) (after_call st c)

-- each of these places is divisible by four
unfoldable pub AllDivided : List ℕ → Type 0
AllDivided [] = Unit {0}
AllDivided (p ∷ ps) = (p % lanes ≡ 0) × AllDivided ps

-- "From a count of 0, n gaps together lie between 12 × n - 3 and 12 × n, and the count is exactly what is missing."
pub record Between (n together count : ℕ) : Type 0 where
  pub least : full_gap * n - most_deficit ≤ together
  pub most : together ≤ full_gap * n
  pub missing : together + count ≡ full_gap * n
