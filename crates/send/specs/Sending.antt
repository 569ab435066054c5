-- Document 01, "Sending" and, for sending, "Refusals and their order": the four calls. Each is a table of refusals and the symbols it writes;
-- what is common to them stands here once.
use Rattle.station.specs.Numbers.{Checked}
use Rattle.std.specs.Prelude.{ℕ, ◌+◌, ◌-◌, Bool, false, not, ◌||◌, List, [], length, eqb, ltb, Err, Ok}
use Rattle.line.specs.Limits.{least_type, most_length, most_class, around_data, most_tags}
use Rattle.line.specs.Line.{Symbol, octets_of, marks_of, overwrite}
use Rattle.line.specs.Table.{Table, ◌⇒◌, ◌∣◌, otherwise, first}
use Rattle.station.specs.declared.Settings.{Settings}
use Rattle.station.specs.declared.State.{State}
use Rattle.station.specs.declared.Port.{Port}
use Rattle.station.specs.declared.Quanta.{Quanta}
use Rattle.station.specs.declared.Refusal.{Refusal}
use Rattle.station.specs.declared.Refusal.TheVariants.{BadSettings, BadBuffers, BadPlace, OtherFlow, BadClass, BadType, LongData, NoRoom, Held, ManyTags, HighDeficit}
use Rattle.station.specs.Numbers.{refusal_number}
use Rattle.station.specs.Station.{bad_settings, bad_buffers, bad_place, bad_start, high_deficit, is_pause_mode, is_pfc_mode, with_timers, with_deficit}
use Rattle.flow.specs.Timers.{timer, lowered}
use Rattle.writing.specs.declared.Client.{Client}
use Rattle.writing.specs.declared.Classes.{Classes}
use Rattle.writing.specs.declared.Form.{Form}
use Rattle.writing.specs.declared.Form.TheVariants.{ByLength, ByType}
use Rattle.send.specs.declared.Sending.{Sending}
use Rattle.writing.specs.Frames.{client_body, pause_body, pfc_body, idle_symbols}
use Rattle.writing.specs.Gaps.{gap_on, symbols_on}

-- ---- Sending: what a call gives and leaves, by its refusal and the symbols it would write

-- a call's answer with its place and state, and both lent buffers: a record, so that a promise is one equation
pub record SendCall : Type 0 where
  pub given : Sending
  pub octets : List ℕ
  pub marks : List ℕ

abbrev pub send_call : Sending → List ℕ → List ℕ → SendCall
send_call r os ms = record { given = r; octets = os; marks = ms }

-- document 01's number of a refusal, 0 where symbols were written
abbrev pub send_refusal : Checked → ℕ
send_refusal (Ok _) = 0
send_refusal (Err x) = refusal_number x

-- the symbols that a call writes: none where it is refused
unfoldable pub written : Checked → List Symbol → List Symbol
written (Err x) new = []
written (Ok _) new = new

-- "Every call that writes n symbols lowers each timer by n, not below zero." Document 02, item 5: "The slots that lower the timers are those really
-- written"; and the deficit count is now `count`
unfoldable pub state_sent : State → ℕ → ℕ → State
state_sent st n count = with_deficit count (with_timers (lowered n st.timers) st)

-- what a refused call gives, and one that wrote up to a place and left a state
abbrev pub refused_at : Refusal → ℕ → State → Sending
refused_at x place st = record { answer = Err x; place = place; state = st }

abbrev pub wrote_up_to : ℕ → State → Sending
wrote_up_to next st = record { answer = Ok tt; place = next; state = st }

-- "gives its own place plus the number of symbols it wrote"; "lowers each timer by n"; "from the place the caller names on; every other symbol
-- stays". "A refusal gives its number, …, the place it was called with …, the old state, and untouched buffers."
unfoldable pub send_checked : Checked → State → List ℕ → List ℕ → ℕ → List Symbol → ℕ → SendCall
send_checked (Err x) st os ms place new count = send_call (refused_at x place st) os ms
send_checked (Ok _) st os ms place new count =
    send_call
    (wrote_up_to (place + length new) (state_sent st (length new) count))
    (overwrite os place (octets_of new))
    (overwrite ms place (marks_of new))

-- ---- Refusals and their order: the tests of 5 to 10

-- 5: "class above 7"
unfoldable pub bad_class : Client → Bool
bad_class c = ltb most_class c.class

-- 6: "type form under 1536, or 0x8100 or 0x8808"; document 02, item 1: "6 also for type 0x88A8"
unfoldable pub bad_type : Form → Bool
bad_type ByLength = false
bad_type (ByType t) = ltb t least_type || eqb t 0x8100 || eqb t 0x8808 || eqb t 0x88A8

-- 10, of item 1: "more than eight tags"
unfoldable pub many_tags : Client → Bool
many_tags c = ltb most_tags c.count

-- 7: "data over 1500 (length form) or over M - 18 (type form)"
unfoldable pub long_data : ℕ → Form → List ℕ → Bool
long_data m ByLength d = ltb most_length (length d)
long_data m (ByType t) d = ltb (m - around_data) (length d)

-- 8: "fewer symbols from the place to the end of the buffers than needed"
unfoldable pub no_room : List ℕ → ℕ → List Symbol → Bool
no_room os place new = ltb (length os - place) (length new)

-- 9: "client frame, timer of its class above zero"
unfoldable pub held : State → ℕ → Bool
held st class = ltb 0 (timer st.timers class).0

-- ---- Refusals and their order: the tables, "Lowest number first", and the calls

-- "client sending 1 to 3 and 5 to 9"; item 1: 10 "tested after 6 and before 7"; item 5: "3 also for a place not divisible by four, then new 19, …; 8
-- counts the actual gap"
unfoldable pub client_refusals : Settings → State → Port → List ℕ → List ℕ → ℕ → Client → List ℕ → Table Checked
client_refusals s st port os ms place c d =
    bad_settings s ⇒ Err BadSettings
    ∣ bad_buffers os ms ⇒ Err BadBuffers
    ∣ bad_start port os place ⇒ Err BadPlace
    ∣ high_deficit port st.deficit ⇒ Err HighDeficit
    ∣ bad_class c ⇒ Err BadClass
    ∣ bad_type c.form ⇒ Err BadType
    ∣ many_tags c ⇒ Err ManyTags
    ∣ long_data s.limit c.form d ⇒ Err LongData
    ∣ no_room os place (symbols_on port st.deficit place (client_body s c d)) ⇒ Err NoRoom
    ∣ held st c.class ⇒ Err Held
    ∣ otherwise (Ok tt)

-- "pause and PFC 1 to 4 and 8", of a frame of what its FCS covers; item 5: "Pause and PFC frames obey the same gaps". `inMode` says whether the flow
-- mode is the one asked for. Of the state they look at the deficit count alone.
unfoldable pub control_refusals : Settings → Port → ℕ → List ℕ → List ℕ → ℕ → Bool → List ℕ → Table Checked
control_refusals s port count os ms place inMode body =
    bad_settings s ⇒ Err BadSettings
    ∣ bad_buffers os ms ⇒ Err BadBuffers
    ∣ bad_start port os place ⇒ Err BadPlace
    ∣ high_deficit port count ⇒ Err HighDeficit
    ∣ not inMode ⇒ Err OtherFlow
    ∣ no_room os place (symbols_on port count place body) ⇒ Err NoRoom
    ∣ otherwise (Ok tt)

-- "Idle fill 2, 3 and 8"; item 5: "Idle fill take any place"
unfoldable pub idle_refusals : List ℕ → List ℕ → ℕ → List Symbol → Table Checked
idle_refusals os ms place new =
    bad_buffers os ms ⇒ Err BadBuffers
    ∣ bad_place os place ⇒ Err BadPlace
    ∣ no_room os place new ⇒ Err NoRoom
    ∣ otherwise (Ok tt)

unfoldable pub client_checked : Settings → State → Port → List ℕ → List ℕ → ℕ → Client → List ℕ → Checked
client_checked s st port os ms place c d = first (client_refusals s st port os ms place c d)

unfoldable pub pause_checked : Settings → Port → ℕ → List ℕ → List ℕ → ℕ → Quanta → Checked
pause_checked s port count os ms place q = first (control_refusals s port count os ms place (is_pause_mode s.flow) (pause_body s q))

unfoldable pub pfc_checked : Settings → Port → ℕ → List ℕ → List ℕ → ℕ → Classes → Checked
pfc_checked s port count os ms place k = first (control_refusals s port count os ms place (is_pfc_mode s.flow) (pfc_body s k))

unfoldable pub idle_checked : List ℕ → List ℕ → ℕ → ℕ → Checked
idle_checked os ms place n = first (idle_refusals os ms place (idle_symbols n))

-- a frame on a port, once its table has answered, of what its FCS covers: its symbols with the gap of the port, and the count after that gap
unfoldable pub frame_sending : Checked → State → Port → List ℕ → List ℕ → ℕ → List ℕ → SendCall
frame_sending k st port os ms place body =
    send_checked k st os ms place (symbols_on port st.deficit place body) (gap_on port st.deficit place body).count

-- the four calls, of any port, octets, marks and place
unfoldable pub client_sending : Settings → State → Port → List ℕ → List ℕ → ℕ → Client → List ℕ → SendCall
client_sending s st port os ms place c d = frame_sending (client_checked s st port os ms place c d) st port os ms place (client_body s c d)

unfoldable pub pause_sending : Settings → State → Port → List ℕ → List ℕ → ℕ → Quanta → SendCall
pause_sending s st port os ms place q = frame_sending (pause_checked s port st.deficit os ms place q) st port os ms place (pause_body s q)

unfoldable pub pfc_sending : Settings → State → Port → List ℕ → List ℕ → ℕ → Classes → SendCall
pfc_sending s st port os ms place k = frame_sending (pfc_checked s port st.deficit os ms place k) st port os ms place (pfc_body s k)

-- Idle fill leaves the deficit count: "only frames sent on this port change it"
unfoldable pub idle_sending : State → List ℕ → List ℕ → ℕ → ℕ → SendCall
idle_sending st os ms place n = send_checked (idle_checked os ms place n) st os ms place (idle_symbols n) st.deficit
