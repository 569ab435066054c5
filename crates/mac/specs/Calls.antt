-- Sequences of our calls on one state: what "Sending" says of the timers ("A timer only falls by sending and is only set by reading"), what demand 2 says
-- of sending ("starts no client frame while its class timer runs"), and document 02, items 5 and 14. The theorems are proofs/Timers.antt,
-- proofs/Leaves.antt, proofs/Port.antt and proofs/Quiet.antt. Each call has settings, buffers and all else but the state of its own, so nothing is assumed
-- of what happens to them between calls, and refused calls are among them.
use Rattle.station.specs.Numbers.{Checked}
use Rattle.std.specs.Prelude.{ℕ, zero, suc, ◌+◌, ◌/◌, ◌%◌, ◌≡◌, Bool, false, cond, List, [], ◌∷◌, ◌++◌, length, get_or, take, drop, eqb, Err, None, Ok, Option, Some}
use Rattle.line.specs.Line.{Symbol, capture, octets_of, marks_of, find_start, AfterStart, unended, ended, after_start, MetStart, met_starts, overwrite}
use Rattle.line.specs.Table.{first}
use Rattle.station.specs.declared.Address.{Address}
use Rattle.station.specs.declared.Settings.{Settings}
use Rattle.station.specs.declared.State.{State}
use Rattle.station.specs.declared.Quanta.{Quanta}
use Rattle.station.specs.declared.Slots.{Slots}
use Rattle.station.specs.declared.Outcome.{Outcome}
use Rattle.station.specs.Numbers.{by_outcome}
use Rattle.flow.specs.Timers.{slots_of, quanta_at}
use Rattle.table.specs.declared.Entry.{Entry}
use Rattle.table.specs.Entries.{mine}
use Rattle.outcome.specs.Outcomes.{outcome, frame_of}
use Rattle.receive.specs.Reading.{read_refusals, reading}
use Rattle.receive.specs.Walk.{walked}
use Rattle.kept.specs.declared.Run.{Run}
use Rattle.kept.specs.declared.Told.{Told}
use Rattle.kept.specs.Kept.{front_of}
use Rattle.plain.specs.declared.Plain.{Plain}
use Rattle.plain.specs.Plain.{step}
use Rattle.logging.specs.Walks.{walk_logged}
use Rattle.send.specs.Sending.{SendCall, written}
use Rattle.counting.specs.Claims.{Lent, Sends, place_of, sending_of, counting_of, symbols_asked, refusals_of, all_refusals}

-- a call that takes a state. The first four read, each with its settings, its job and the address table: a reading, with octets, marks and place; a walk,
-- which has no place; a walk that keeps its readings in a log (document 02, item 4), with a place and the log; a symbol that the plain reader takes
-- (item 12), which keeps a place, whether a run is in progress, and that run. The last two send: without totals, with octets and marks, and with them
-- (item 9). Every other call of ours takes no state, so it changes none, and writes no symbol.
pub data Call : Type 0 where
  reads : Settings → ℕ → List Entry → List ℕ → List ℕ → ℕ → Call
  walks : Settings → ℕ → List Entry → List ℕ → List ℕ → Call
  keeps : Settings → ℕ → List Entry → List ℕ → List ℕ → ℕ → List ℕ → Call
  takes : Settings → ℕ → List Entry → ℕ → Bool → Run → Symbol → Call
  sends : List ℕ → List ℕ → Sends → Call
  counts : Lent → Sends → Call

-- whether what a call is asked to send passes a test; those that read send nothing
unfoldable pub asks_such : (Sends → Bool) → Call → Bool
asks_such test (reads s job es os ms p) = false
asks_such test (walks s job es os ms) = false
asks_such test (keeps s job es os ms p l) = false
asks_such test (takes s job es at running run x) = false
asks_such test (sends os ms c) = test c
asks_such test (counts l c) = test c

-- the plain reader with that state
abbrev pub reader : State → ℕ → Bool → Run → Plain
reader st at running run = record { place = at; running = running; run = run; state = st }

-- the state that a call leaves, and a sequence of calls
unfoldable pub after_call : State → Call → State
after_call st (reads s job es os ms p) = (reading s job es st os ms p).state
after_call st (walks s job es os ms) = (walked s job es st os ms).state
after_call st (keeps s job es os ms p l) = (walk_logged s job es st os ms p l).given.state
after_call st (takes s job es at running run x) = (step s job es (reader st at running run) x).plain.state
after_call st (sends os ms c) = (sending_of st os ms c).given.state
after_call st (counts l c) = (counting_of st l c).sent.given.state

unfoldable pub after_calls : State → List Call → State
after_calls st [] = st
after_calls st (c ∷ cs) = after_calls (after_call st c) cs

-- the symbols that a call writes, and a sequence of calls
unfoldable pub writes : State → Call → List Symbol
writes st (reads s job es os ms p) = []
writes st (walks s job es os ms) = []
writes st (keeps s job es os ms p l) = []
writes st (takes s job es at running run x) = []
writes st (sends os ms c) = written (first (refusals_of st os ms c)) (symbols_asked st c)
writes st (counts l c) = written (first (all_refusals st l c)) (symbols_asked st c)

unfoldable pub all_written : State → List Call → List Symbol
all_written st [] = []
all_written st (c ∷ cs) = writes st c ++ all_written (after_call st c) cs

-- ---- where these symbols stand

-- a sending call leaves its buffers with these symbols over them "from the place the caller names on; every other symbol stays", and "gives its own
-- place plus the number of symbols it wrote"
pub record Leaves (os ms : List ℕ) (place : ℕ) (new : List Symbol) (x : SendCall) : Type 0 where
  pub octets : x.octets ≡ overwrite os place (octets_of new)
  pub marks : x.marks ≡ overwrite ms place (marks_of new)
  pub at : x.given.place ≡ place + length new

-- that of each call; those that read are lent their buffers to look at, and write nothing
unfoldable pub CallLeaves : State → Call → Type 0
CallLeaves st (reads s job es os ms p) = writes st (reads s job es os ms p) ≡ []
CallLeaves st (walks s job es os ms) = writes st (walks s job es os ms) ≡ []
CallLeaves st (keeps s job es os ms p l) = writes st (keeps s job es os ms p l) ≡ []
CallLeaves st (takes s job es at running run x) = writes st (takes s job es at running run x) ≡ []
CallLeaves st (sends os ms c) = Leaves os ms (place_of c) (writes st (sends os ms c)) (sending_of st os ms c)
CallLeaves st (counts l c) = Leaves l.octets l.marks (place_of c) (writes st (counts l c)) (counting_of st l c).sent

-- ---- what a call reads

-- of a Start: its outcome and its frame, or of that frame the first octets, if no more was kept
pub record Read : Type 0 where
  pub outcome : Outcome
  pub frame : List ℕ

-- by a Start whose run has ended, and by Starts one after the other; `own` is what the call's job has of the table
unfoldable pub read_of : Settings → List (Option Address) → AfterStart → List Read
read_of s own unended = []
read_of s own (ended run by) = record { outcome = outcome s own run by; frame = frame_of run } ∷ []

unfoldable pub reads_of : Settings → List (Option Address) → List MetStart → List Read
reads_of s own [] = []
reads_of s own (m ∷ l) = read_of s own m.follows ++ reads_of s own l

-- by a symbol at which the plain reader tells the outcome of a run, of which it kept the frame's first octets
unfoldable pub read_told : Told → Run → List Read
read_told (Told.Refused x) run = []
read_told Told.Quiet run = []
read_told (Told.Counted o w p v) run = record { outcome = o; frame = front_of run } ∷ []

-- the Starts that a call reads: a refused one none, a reading "the first Start at that place or later", a walk every one, a walk that keeps its readings
-- as many as it kept, from its place on
unfoldable pub unless_refused : Checked → List MetStart → List MetStart
unless_refused (Err x) l = []
unless_refused (Ok _) l = l

unfoldable pub start_found : List Symbol → Option ℕ → List MetStart
start_found c None = []
start_found c (Some i) = record { place = i; follows = after_start (drop (i + 1) c) } ∷ []

unfoldable pub start_read : Settings → ℕ → List Entry → List ℕ → List ℕ → ℕ → List MetStart
start_read s job es os ms p = unless_refused (first (read_refusals s job es os ms p)) (start_found (capture os ms) (find_start (capture os ms) p))

unfoldable pub starts_walked : Settings → ℕ → List Entry → List ℕ → List ℕ → List MetStart
starts_walked s job es os ms = unless_refused (first (read_refusals s job es os ms 0)) (met_starts 0 (capture os ms))

unfoldable pub starts_kept : Settings → ℕ → List Entry → State → List ℕ → List ℕ → ℕ → List ℕ → List MetStart
starts_kept s job es st os ms p l = take (walk_logged s job es st os ms p l).given.kept (met_starts p (drop p (capture os ms)))

-- of each call, in order; a sending call reads nothing
unfoldable pub read_by : State → Call → List Read
read_by st (reads s job es os ms p) = reads_of s (mine job es) (start_read s job es os ms p)
read_by st (walks s job es os ms) = reads_of s (mine job es) (starts_walked s job es os ms)
read_by st (keeps s job es os ms p l) = reads_of s (mine job es) (starts_kept s job es st os ms p l)
read_by st (takes s job es at running run x) = read_told (step s job es (reader st at running run) x).told run
read_by st (sends os ms c) = []
read_by st (counts l c) = []

-- ---- to what it sets a class

-- bit n of a class octet "names class n"
unfoldable pub names : ℕ → ℕ → Bool
names classes zero = eqb (classes % 2) 1
names classes (suc n) = names (classes / 2) n

-- the quanta of class n in a list of two octets each
unfoldable pub quanta_of_class : List ℕ → ℕ → Quanta
quanta_of_class l zero = quanta_at l 0
quanta_of_class l (suc n) = quanta_of_class (drop 2 l) n

-- by a frame `f` with this outcome: once, or not at all
unfoldable pub set_by : Outcome → List ℕ → ℕ → List Quanta
set_by o f class = by_outcome o [] (quanta_at f 16 ∷ []) (cond (names (get_or f 17 0) class) (quanta_of_class (drop 18 f) class ∷ []) []) [] []

-- by what is read, time after time in order; and by a call: "only set by reading"
unfoldable pub set_by_all : ℕ → List Read → List Quanta
set_by_all class [] = []
set_by_all class (r ∷ l) = set_by r.outcome r.frame class ++ set_by_all class l

unfoldable pub sets_class : ℕ → State → Call → List Quanta
sets_class class st c = set_by_all class (read_by st c)

-- "Setting replaces the old time": what a timer is set to last; as it was where it is not set
unfoldable pub latest : List Quanta → Slots → Slots
latest [] t = t
latest (q ∷ qs) t = latest qs (slots_of q)

-- no call of these sets the class
unfoldable pub NoneSets : ℕ → State → List Call → Type 0
NoneSets class st [] = Unit {0}
NoneSets class st (c ∷ cs) = (sets_class class st c ≡ []) × NoneSets class (after_call st c) cs
