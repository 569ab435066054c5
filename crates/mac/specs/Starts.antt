-- Demand 2, of each Start: "Each Start in a capture, but for a last one whose run hasn't ended, gets the one outcome …, its counter rises by one …,
-- and what is handed out is that frame's client data and status word."; by document 02, item 6, modulo 2^64. The theorem is `each_start` of proofs/Each.antt.
use Rattle.std.specs.Prelude.{ℕ, ◌+◌, ◌%◌, ◌≡◌, List, [], ◌∷◌, Option}
use Rattle.line.specs.Line.{unended, ended, MetStart}
use Rattle.station.specs.declared.Address.{Address}
use Rattle.station.specs.declared.Settings.{Settings}
use Rattle.station.specs.declared.State.{State}
use Rattle.station.specs.declared.Outcome.{Outcome}
use Rattle.station.specs.Numbers.{outcome_number, by_outcome}
use Rattle.station.specs.Station.{counter_size, counter}
use Rattle.frame.specs.Length.{client_data}
use Rattle.control.specs.Control.{way_carried}
use Rattle.outcome.specs.Outcomes.{outcome, frame_of}
use Rattle.outcome.specs.Status.{status}
use Rattle.receive.specs.declared.Answer.TheVariants.{Nothing, Open, Counted}
use Rattle.receive.specs.declared.Reading.{Reading}
use Rattle.receive.specs.Values.{answer_part}
use Rattle.receive.specs.Reading.{part_of, handed_part}

-- what the Start at a place, whose frame is f and whose outcome is o, gets from the reading r that is made of it with the state st, for a job whose own
-- entries are `own`
pub record Gets (s : Settings) (own : List (Option Address)) (os : List ℕ) (st : State) (place : ℕ) (f : List ℕ) (o : Outcome) (r : Reading) : Type 0 where
  pub start : r.start ≡ place
  -- "the one outcome", "that frame's … status word", a part of the captured octets, and which address let it in (document 02, item 7)
  pub answer : r.answer ≡ Counted o (status s o f) (handed_part s o (place + 8) f) (way_carried s own o f)
  -- "what is handed out is that frame's client data": its octets; none by outcomes 1 to 10
  pub hands : part_of os (answer_part r.answer) ≡ by_outcome o [] [] [] [] (client_data s.checking f)
  -- "its counter rises by one modulo" 2^64, and no other does
  pub rises : counter o r.state.counters ≡ (counter o st.counters + 1) % counter_size
  pub others : (p : Outcome) → (outcome_number p ≡ outcome_number o → ⊥) → counter p r.state.counters ≡ counter p st.counters

-- Starts, and beside them readings, one for each and in order: the first made with the state st, each other with the state that the one before left
pub data Each (s : Settings) (own : List (Option Address)) (os : List ℕ) : State → List MetStart → List Reading → Type 0 where
  -- one with a run and the octet of the control symbol that ends it
  gets : {st : State} {place : ℕ} {run : List ℕ} {by : ℕ} {l : List MetStart} {r : Reading} {rs : List Reading}
      → Gets s own os st place (frame_of run) (outcome s own run by) r → Each s own os r.state l rs
      → Each s own os st (record { place = place; follows = ended run by } ∷ l) (r ∷ rs)
  -- "a last one whose run hasn't ended"
  last_open : {st : State} {place : ℕ} {r : Reading}
      → r.start ≡ place → r.answer ≡ Open → r.state ≡ st → Each s own os st (record { place = place; follows = unended } ∷ []) (r ∷ [])
  -- no Start is left: `none`
  none_left : {st : State} {r : Reading} → r.answer ≡ Nothing → r.state ≡ st → Each s own os st [] (r ∷ [])
