-- Document 02, item 9: what its claims speak of. A call on a capture and its totals, the whole table of its refusals, and any sequence of calls on one
-- capture ("while a capture grows"). The theorems are proofs/Claims.antt and, of the refusals, mac/proofs/Totals.antt.
use Rattle.station.specs.Numbers.{Checked}
use Rattle.std.specs.Prelude.{ℕ, zero, suc, ◌≡◌, List, [], ◌∷◌, Err}
use Rattle.line.specs.Line.{Symbol, capture}
use Rattle.line.specs.Table.{Table, ◌⇒◌, ◌∣◌, otherwise}
use Rattle.station.specs.declared.Settings.{Settings}
use Rattle.station.specs.declared.State.{State}
use Rattle.station.specs.declared.Port.{Port}
use Rattle.station.specs.declared.Quanta.{Quanta}
use Rattle.station.specs.declared.Refusal.TheVariants.{WrongTotals, HighTotal}
use Rattle.station.specs.Station.{is_pause_mode, is_pfc_mode}
use Rattle.writing.specs.declared.Client.{Client}
use Rattle.writing.specs.declared.Classes.{Classes}
use Rattle.writing.specs.Frames.{client_body, pause_body, pfc_body, idle_symbols}
use Rattle.writing.specs.Gaps.{gap_on, symbols_on}
use Rattle.send.specs.Sending.{SendCall, client_refusals, control_refusals, idle_refusals, client_sending, pause_sending, pfc_sending, idle_sending}
use Rattle.totals.specs.Totals.{true_totals, wrong_totals, high_total, filled}
use Rattle.counting.specs.Counting.{Counting, client_counting, pause_counting, pfc_counting, idle_counting}

-- a capture with its totals beside it
pub record Lent : Type 0 where
  pub octets : List ℕ
  pub marks : List ℕ
  pub totals : List ℕ

-- "whenever the totals are true"
unfoldable pub TotalsTrue : Lent → Type 0
TotalsTrue l = l.totals ≡ true_totals (capture l.octets l.marks)

-- ---- "Each sending call and Idle fill"

-- such a call: the settings and port of a frame, the place and what is asked. Its state is whatever other calls, readings too, have left.
pub data Sends : Type 0 where
  sends_client : Settings → Port → ℕ → Client → List ℕ → Sends
  sends_pause : Settings → Port → ℕ → Quanta → Sends
  sends_pfc : Settings → Port → ℕ → Classes → Sends
  fills_idle : ℕ → ℕ → Sends

abbrev pub place_of : Sends → ℕ
place_of (sends_client s port place c d) = place
place_of (sends_pause s port place q) = place
place_of (sends_pfc s port place k) = place
place_of (fills_idle place n) = place

-- what it gives and leaves without totals, and with them
unfoldable pub sending_of : State → List ℕ → List ℕ → Sends → SendCall
sending_of st os ms (sends_client s port place c d) = client_sending s st port os ms place c d
sending_of st os ms (sends_pause s port place q) = pause_sending s st port os ms place q
sending_of st os ms (sends_pfc s port place k) = pfc_sending s st port os ms place k
sending_of st os ms (fills_idle place n) = idle_sending st os ms place n

unfoldable pub counting_of : State → Lent → Sends → Counting
counting_of st l (sends_client s port place c d) = client_counting s st port l.octets l.marks l.totals place c d
counting_of st l (sends_pause s port place q) = pause_counting s st port l.octets l.marks l.totals place q
counting_of st l (sends_pfc s port place k) = pfc_counting s st port l.octets l.marks l.totals place k
counting_of st l (fills_idle place n) = idle_counting st l.octets l.marks l.totals place n

-- the symbols that it writes unless it is refused, and the deficit count after them
unfoldable pub symbols_asked : State → Sends → List Symbol
symbols_asked st (sends_client s port place c d) = symbols_on port st.deficit place (client_body s c d)
symbols_asked st (sends_pause s port place q) = symbols_on port st.deficit place (pause_body s q)
symbols_asked st (sends_pfc s port place k) = symbols_on port st.deficit place (pfc_body s k)
symbols_asked st (fills_idle place n) = idle_symbols n

unfoldable pub count_after : State → Sends → ℕ
count_after st (sends_client s port place c d) = (gap_on port st.deficit place (client_body s c d)).count
count_after st (sends_pause s port place q) = (gap_on port st.deficit place (pause_body s q)).count
count_after st (sends_pfc s port place k) = (gap_on port st.deficit place (pfc_body s k)).count
count_after st (fills_idle place n) = st.deficit

-- the capture and the totals after it
abbrev pub left_by : Counting → Lent
left_by x = record { octets = x.sent.octets; marks = x.sent.marks; totals = x.totals }

-- "A refused call changes none", of all that is lent; the place and the state are those it was called with
pub record RefusedCall (st : State) (l : Lent) (place : ℕ) (x : Counting) : Type 0 where
  pub at : x.sent.given.place ≡ place
  pub state : x.sent.given.state ≡ st
  pub lent : left_by x ≡ l

-- ---- "Refusals, after 3 and 19": the rows of the call without totals, with 21 and 22 behind its first n

unfoldable pub with_totals : ℕ → List ℕ → List ℕ → Table Checked → Table Checked
with_totals zero os ts rows = wrong_totals os ts ⇒ Err WrongTotals ∣ high_total ts ⇒ Err HighTotal ∣ rows
with_totals (suc n) os ts (otherwise a) = otherwise a
with_totals (suc n) os ts (r ∣ rows) = r ∣ with_totals n os ts rows

-- the table of the call without totals; 1, 2, 3 and 19 come first in a frame's, 2 and 3 in Idle fill's
unfoldable pub refusals_of : State → List ℕ → List ℕ → Sends → Table Checked
refusals_of st os ms (sends_client s port place c d) = client_refusals s st port os ms place c d
refusals_of st os ms (sends_pause s port place q) = control_refusals s port st.deficit os ms place (is_pause_mode s.flow) (pause_body s q)
refusals_of st os ms (sends_pfc s port place k) = control_refusals s port st.deficit os ms place (is_pfc_mode s.flow) (pfc_body s k)
refusals_of st os ms (fills_idle place n) = idle_refusals os ms place (idle_symbols n)

abbrev pub come_first : Sends → ℕ
come_first (sends_client s port place c d) = 4
come_first (sends_pause s port place q) = 4
come_first (sends_pfc s port place k) = 4
come_first (fills_idle place n) = 2

unfoldable pub all_refusals : State → Lent → Sends → Table Checked
all_refusals st l c = with_totals (come_first c) l.octets l.totals (refusals_of st l.octets l.marks c)

-- ---- any sequence of calls on one capture

pub data Call : Type 0 where
  fills_totals : Call
  sends : State → Sends → Call

unfoldable pub after_call : Lent → Call → Lent
after_call l fills_totals = record { octets = l.octets; marks = l.marks; totals = (filled l.octets l.marks l.totals).totals }
after_call l (sends st c) = left_by (counting_of st l c)

unfoldable pub after_calls : Lent → List Call → Lent
after_calls l [] = l
after_calls l (c ∷ cs) = after_calls (after_call l c) cs
