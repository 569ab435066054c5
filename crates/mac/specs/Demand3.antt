-- Demand 3: what it speaks of. The theorems are proofs/Demand3.antt and, from the sending calls on, proofs/Row.antt.
use Rattle.std.specs.Prelude.{ℕ, ◌+◌, ◌-◌, ◌≤◌, ◌<◌, ◌≡◌, true, false, List, [], ◌∷◌, ◌++◌, length, take, drop, Ok, Option}
use Rattle.line.specs.Line.{Symbol, capture, octets_of, marks_of, overwrite}
use Rattle.fcs.specs.Fcs.{fcs}
use Rattle.station.specs.declared.Address.{Address}
use Rattle.station.specs.declared.Settings.{Settings}
use Rattle.station.specs.declared.Port.{Port}
use Rattle.station.specs.declared.State.{State}
use Rattle.frame.specs.Frame.{oversized}
use Rattle.table.specs.declared.Entry.{Entry}
use Rattle.table.specs.Way.{accepts}
use Rattle.receive.specs.Walk.{walk, handed_out}
use Rattle.writing.specs.declared.Client.{Client}
use Rattle.writing.specs.declared.Form.{Form}
use Rattle.writing.specs.declared.Form.TheVariants.{ByLength, ByType}
use Rattle.writing.specs.Frames.{padded, client_body, client_symbols}
use Rattle.writing.specs.Gaps.{gap_on}
use Rattle.send.specs.Sending.{bad_type, many_tags, long_data, SendCall, send_call, client_checked, client_sending}

-- a client frame, its data, and how many Idles its gap has. Demand 3 asks nothing of their number, so any gap will do that a port gives a frame
-- (document 02, item 5: "Frames handed to a receiver still come out as demand 3 says").
pub record Frame : Type 0 where
  pub client : Client
  pub octets : List ℕ
  pub idles : ℕ

-- "back to back, any number of client frames from our sender": their symbols
unfoldable pub row_symbols : Settings → List Frame → List Symbol
row_symbols tx [] = []
row_symbols tx (f ∷ fs) = client_symbols f.idles tx f.client f.octets ++ row_symbols tx fs

-- "The data is what went in; in the type form data under 46 octets comes out followed by zeros to 46."
unfoldable pub delivered : Form → List ℕ → List ℕ
delivered ByLength d = d
delivered (ByType t) d = padded d

unfoldable pub all_delivered : List Frame → List (List ℕ)
all_delivered [] = []
all_delivered (f ∷ fs) = delivered f.client.form f.octets ∷ all_delivered fs

-- what is true of every value of the types: an address has six octets, a type 16 bits
unfoldable pub Bits16 : Form → Type 0
Bits16 ByLength = Unit {0}
Bits16 (ByType t) = t < 65536

pub record Typed (tx : Settings) (f : Frame) : Type 0 where
  pub six : length f.client.dest.0 ≡ 6
  pub own_six : length tx.own.0 ≡ 6
  pub bits : Bits16 f.client.form

-- the conditions on a frame: the receiver's settings, with the own entries of its job "in place of the four listed ones" (document 02, item 10), "accept
-- those destinations and allow those sizes"
pub record Welcome (tx rx : Settings) (own : List (Option Address)) (f : Frame) : Type 0 where
  pub typed : Typed tx f
  pub heard : accepts rx own f.client.dest.0 ≡ true
  pub allowed : oversized rx.limit (client_body tx f.client f.octets ++ fcs (client_body tx f.client f.octets)) ≡ false

-- and it is one "from our sender", which refuses it by none of 6, 10 and 7: "any number of tags up to eight" (document 02, item 1)
pub record Carried (tx rx : Settings) (own : List (Option Address)) (f : Frame) : Type 0 where
  pub welcome : Welcome tx rx own f
  pub form : bad_type f.client.form ≡ false
  pub few : many_tags f.client ≡ false
  pub short : long_data tx.limit f.client.form f.octets ≡ false

unfoldable pub AllWelcome : Settings → Settings → List (Option Address) → List Frame → Type 0
AllWelcome tx rx own [] = Unit {0}
AllWelcome tx rx own (f ∷ fs) = Welcome tx rx own f × AllWelcome tx rx own fs

unfoldable pub AllCarried : Settings → Settings → List (Option Address) → List Frame → Type 0
AllCarried tx rx own [] = Unit {0}
AllCarried tx rx own (f ∷ fs) = Carried tx rx own f × AllCarried tx rx own fs

-- what a walk of a job over a stretch of line by itself hands out: "From the damaged part only frames that demand 2 accepts"
abbrev pub alone : Settings → ℕ → List Entry → State → List Symbol → List (List ℕ)
alone rx job es st l = handed_out (octets_of l) (walk rx job es st (octets_of l) (marks_of l))

-- ---- client calls in a row, each at the place that the one before gave, with the state and the buffers that it left

-- what a call is asked to send, and on which port
pub record Asked : Type 0 where
  pub port : Port
  pub client : Client
  pub octets : List ℕ

-- the frame that it puts on the line, with the gap that its port has at its place and deficit count
unfoldable pub frame_sent : Settings → SendCall → Asked → Frame
frame_sent tx x a =
    record {
      client = a.client;
      octets = a.octets;
      idles = (gap_on a.port x.given.state.deficit x.given.place (client_body tx a.client a.octets)).size - 1;
    }

unfoldable pub send_next : Settings → SendCall → Asked → SendCall
send_next tx x a = client_sending tx x.given.state a.port x.octets x.marks x.given.place a.client a.octets

unfoldable pub send_row : Settings → SendCall → List Asked → SendCall
send_row tx x [] = x
send_row tx x (a ∷ asked) = send_row tx (send_next tx x a) asked

-- the frames of a row of calls
unfoldable pub row_frames : Settings → SendCall → List Asked → List Frame
row_frames tx x [] = []
row_frames tx x (a ∷ asked) = frame_sent tx x a ∷ row_frames tx (send_next tx x a) asked

-- where a row starts
abbrev pub row_from : State → List ℕ → List ℕ → ℕ → SendCall
row_from st os ms place = send_call (record { answer = Ok tt; place = place; state = st }) os ms

-- no call of the row is refused
unfoldable pub NoneRefused : Settings → SendCall → List Asked → Type 0
NoneRefused tx x [] = Unit {0}
NoneRefused tx x (a ∷ asked) =
    (client_checked tx x.given.state a.port x.octets x.marks x.given.place a.client a.octets ≡ Ok tt)
    × NoneRefused tx (send_next tx x a) asked

-- from x to y the symbols of these frames were written, back to back from the place of x on, and y has the place behind them; they fit, and "every
-- other symbol stays"
pub record BackToBack (tx : Settings) (x y : SendCall) (fs : List Frame) : Type 0 where
  pub octets : y.octets ≡ overwrite x.octets x.given.place (octets_of (row_symbols tx fs))
  pub marks : y.marks ≡ overwrite x.marks x.given.place (marks_of (row_symbols tx fs))
  pub place : y.given.place ≡ x.given.place + length (row_symbols tx fs)
  pub room : x.given.place + length (row_symbols tx fs) ≤ length x.octets

-- what a row of calls leaves, from a state, buffers and a place on, and the frames that it puts on the line
abbrev pub left : Settings → State → List ℕ → List ℕ → ℕ → List Asked → SendCall
left tx st os ms place asked = send_row tx (row_from st os ms place) asked

abbrev pub frames_left : Settings → State → List ℕ → List ℕ → ℕ → List Asked → List Frame
frames_left tx st os ms place asked = row_frames tx (row_from st os ms place) asked

-- what stood in the buffers before the place, and behind what the row wrote
abbrev pub before : List ℕ → List ℕ → ℕ → List Symbol
before os ms place = take place (capture os ms)

abbrev pub behind : Settings → State → List ℕ → List ℕ → ℕ → List Asked → List Symbol
behind tx st os ms place asked = drop (place + length (row_symbols tx (frames_left tx st os ms place asked))) (capture os ms)
