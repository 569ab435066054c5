-- Document 02, item 14, "Quiet means quiet": what its claims speak of, in the order of its words. The theorems are proofs/Quiet.antt. "Over any sequence
-- of our calls on one state with fixed valid settings": over any list of `Call`s (specs/Calls), each with settings of its own, so that fixed valid ones are
-- a case.
use Rattle.std.specs.Prelude.{ℕ, ◌-◌, ◌*◌, ◌<◌, ◌≡◌, Bool, true, false, ◌&&◌, List, [], ◌∷◌, ◌++◌, map, get_or, eqb}
use Rattle.line.specs.Limits.{quantum_slots}
use Rattle.line.specs.Line.{Symbol, is_start}
use Rattle.station.specs.declared.State.{State}
use Rattle.station.specs.declared.Quanta.{Quanta}
use Rattle.flow.specs.Timers.{timer}
use Rattle.counting.specs.Claims.{Sends, sends_client, sends_pause, sends_pfc, fills_idle}
use Rattle.mac.specs.Calls.{Call, asks_such, after_call, writes, sets_class}

-- ---- what happens to a class, in order

-- "a reading … sets a class to q quanta"; or "we write" a symbol, which is or is not "the Start of a client frame of that class"
pub data Event : Type 0 where
  is_set : Quanta → Event
  is_written : Symbol → Bool → Event

-- "a client frame of that class" is what a call is asked to send, without totals or with them
unfoldable pub asks_for : ℕ → Sends → Bool
asks_for class (sends_client s port place c d) = eqb c.class class
asks_for class (sends_pause s port place q) = false
asks_for class (sends_pfc s port place k) = false
asks_for class (fills_idle place n) = false

unfoldable pub is_client_of : ℕ → Call → Bool
is_client_of class c = asks_such (asks_for class) c

-- the symbols of such a call, of which "the Start" is the one that is a Start symbol; `mine` says whether the call is for a client frame of that class
unfoldable pub written_by : Bool → List Symbol → List Event
written_by mine [] = []
written_by mine (x ∷ l) = is_written x (mine && is_start x) ∷ written_by mine l

-- by one call, and by a sequence of calls; no call both sets a class and writes
unfoldable pub call_events : ℕ → State → Call → List Event
call_events class st c = map is_set (sets_class class st c) ++ written_by (is_client_of class c) (writes st c)

unfoldable pub events : ℕ → State → List Call → List Event
events class st [] = []
events class st (c ∷ cs) = call_events class st c ++ events class (after_call st c) cs

-- ---- what is claimed

-- "the next … symbols that we write", up to where "a later reading sets that class again": of each, whether it is the Start of a client frame of that class
unfoldable pub written_next : List Event → List Bool
written_next [] = []
written_next (is_set q ∷ es) = []
written_next (is_written x starts ∷ es) = starts ∷ written_next es

-- "after a reading that sets a class to q quanta, none of the next 64 × q symbols that we write is the Start of a client frame of that class, unless a
-- later reading sets that class again first"
unfoldable pub Quiet : List Event → Type 0
Quiet es =
    (before after : List Event) (q : Quanta) → es ≡ before ++ (is_set q ∷ after)
    → (j : ℕ) → j < quantum_slots * q.0 → get_or (written_next after) j false ≡ false

-- "symbols that we write": those of the events, in order
unfoldable pub symbols_of : List Event → List Symbol
symbols_of [] = []
symbols_of (is_set q ∷ es) = symbols_of es
symbols_of (is_written x starts ∷ es) = x ∷ symbols_of es

-- what is left of a wait of t symbols: a reading that sets the class puts it to 64 × q, a symbol that we write takes one off
unfoldable pub time_after : ℕ → List Event → ℕ
time_after t [] = t
time_after t (is_set q ∷ es) = time_after (quantum_slots * q.0) es
time_after t (is_written x starts ∷ es) = time_after (t - 1) es

-- "Control frames and other classes may start": two states that have the same deficit count and, where the call is for a client frame, the same timer of
-- that frame's class, are alike for it; every other timer may be whatever it is
pub record AlikeFor (c : Call) (st st' : State) : Type 0 where
  pub count : st.deficit ≡ st'.deficit
  pub own : (class : ℕ) → is_client_of class c ≡ true → timer st.timers class ≡ timer st'.timers class
