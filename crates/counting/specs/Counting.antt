-- Document 02, item 9: the sending calls with the totals of a capture lent beside it. Each is the call of before, and then the blocks that it wrote into
-- counted anew; so the promises of the calls of before stand as they are.
use Rattle.station.specs.Numbers.{Checked}
use Rattle.std.specs.Prelude.{ℕ, List, Err, Ok}
use Rattle.line.specs.Line.{capture}
use Rattle.line.specs.Table.{Table, ◌⇒◌, ◌∣◌, otherwise, first}
use Rattle.station.specs.declared.Settings.{Settings}
use Rattle.station.specs.declared.State.{State}
use Rattle.station.specs.declared.Port.{Port}
use Rattle.station.specs.declared.Quanta.{Quanta}
use Rattle.station.specs.declared.Refusal.TheVariants.{BadSettings, BadBuffers, BadPlace, HighDeficit, WrongTotals, HighTotal}
use Rattle.station.specs.Station.{bad_settings, bad_buffers, bad_start, high_deficit}
use Rattle.writing.specs.declared.Client.{Client}
use Rattle.writing.specs.declared.Classes.{Classes}
use Rattle.send.specs.declared.Sending.{Sending}
use Rattle.send.specs.Sending.{SendCall, send_call, refused_at, client_sending, pause_sending, pfc_sending, idle_sending}
use Rattle.totals.specs.Totals.{recounted, wrong_totals, high_total, before_refusals}

-- a call's answer with its place and state, both lent buffers and the lent totals: a record, so that a promise is one equation
pub record Counting : Type 0 where
  pub sent : SendCall
  pub totals : List ℕ

abbrev pub counting : Sending → List ℕ → List ℕ → List ℕ → Counting
counting r os ms ts = record { sent = send_call r os ms; totals = ts }

-- "Refusals, after 3 and 19": the tests of a frame's call up to 22, on a port and with the deficit count
unfoldable pub frame_totals : Settings → Port → ℕ → List ℕ → List ℕ → ℕ → List ℕ → Table Checked
frame_totals s port count os ms place ts =
    bad_settings s ⇒ Err BadSettings
    ∣ bad_buffers os ms ⇒ Err BadBuffers
    ∣ bad_start port os place ⇒ Err BadPlace
    ∣ high_deficit port count ⇒ Err HighDeficit
    ∣ wrong_totals os ts ⇒ Err WrongTotals
    ∣ high_total ts ⇒ Err HighTotal
    ∣ otherwise (Ok tt)

-- a call with totals: `early` is what the tests up to 22 give, `base` what the call without totals gives and leaves; its own refusals come after these.
-- "Each sending call and Idle fill counts anew the blocks it writes into and touches no other total"; "A refused call changes none."
unfoldable pub count_checked : Checked → State → List ℕ → List ℕ → ℕ → List ℕ → SendCall → Counting
count_checked (Err x) st os ms place ts base = counting (refused_at x place st) os ms ts
count_checked (Ok _) st os ms place ts base =
    record { sent = base; totals = recounted (capture base.octets base.marks) place base.given.place ts }

-- the four calls
unfoldable pub client_counting : Settings → State → Port → List ℕ → List ℕ → List ℕ → ℕ → Client → List ℕ → Counting
client_counting s st port os ms ts place c d =
    count_checked (first (frame_totals s port st.deficit os ms place ts)) st os ms place ts (client_sending s st port os ms place c d)

unfoldable pub pause_counting : Settings → State → Port → List ℕ → List ℕ → List ℕ → ℕ → Quanta → Counting
pause_counting s st port os ms ts place q =
    count_checked (first (frame_totals s port st.deficit os ms place ts)) st os ms place ts (pause_sending s st port os ms place q)

unfoldable pub pfc_counting : Settings → State → Port → List ℕ → List ℕ → List ℕ → ℕ → Classes → Counting
pfc_counting s st port os ms ts place k =
    count_checked (first (frame_totals s port st.deficit os ms place ts)) st os ms place ts (pfc_sending s st port os ms place k)

unfoldable pub idle_counting : State → List ℕ → List ℕ → List ℕ → ℕ → ℕ → Counting
idle_counting st os ms ts place n =
    count_checked (first (before_refusals os ms place ts)) st os ms place ts (idle_sending st os ms place n)
