-- Document 01, "Reading one Start": "a walk from place 0 until `none` or `open`".
use Rattle.receive.specs.Values.{walk_ended}
use Rattle.std.specs.Prelude.{ℕ, zero, suc, ◌+◌, true, false, List, [], ◌∷◌, ◌++◌, length, Err}
use Rattle.station.specs.declared.Settings.{Settings}
use Rattle.station.specs.declared.State.{State}
use Rattle.station.specs.Numbers.{by_outcome}
use Rattle.table.specs.declared.Entry.{Entry}
use Rattle.receive.specs.declared.Answer.{Answer}
use Rattle.receive.specs.declared.Answer.TheVariants.{Nothing, Open, Counted}
use Rattle.receive.specs.declared.Reading.{Reading}
use Rattle.receive.specs.declared.Walking.{Walking}
use Rattle.receive.specs.Reading.{reading, part_of}
use Rattle.receive.specs.Values.{is_counted}

-- the readings made from a place on, each at the next place of the one before and with the state that it left, up to the first that counts no
-- Start; `most` of them at most
unfoldable pub readings_from : ℕ → Settings → ℕ → List Entry → State → List ℕ → List ℕ → ℕ → List Reading
readings_from zero s job es st os ms place = []
readings_from (suc most) s job es st os ms place =
    let r : Reading = reading s job es st os ms place in
    r ∷ elim (is_counted r.answer) [ true ↦ readings_from most s job es r.state os ms r.next | false ↦ [] ]

-- the whole walk: no capture has more Starts than symbols
unfoldable pub walk : Settings → ℕ → List Entry → State → List ℕ → List ℕ → List Reading
walk s job es st os ms = readings_from (length os + 1) s job es st os ms 0

-- what readings come to: how many counted a Start, whether the last one was `open`, or its refusal; and the state that they left
unfoldable pub walk_of : ℕ → State → List Reading → Walking
walk_of n st [] = record { answer = walk_ended n false; state = st }
walk_of n st (r ∷ rs) =
    elim r.answer [
      | Answer.Refused x ↦ record { answer = Err x; state = r.state }
      | Nothing ↦ record { answer = walk_ended n false; state = r.state }
      | Open ↦ record { answer = walk_ended n true; state = r.state }
      | Counted o w p v ↦ walk_of (n + 1) r.state rs
    ]

-- the whole walk in one call
unfoldable pub walked : Settings → ℕ → List Entry → State → List ℕ → List ℕ → Walking
walked s job es st os ms = walk_of 0 st (walk s job es st os ms)

-- what an answer hands out: nothing, or by outcome 11 the octets of its part
unfoldable pub handed_by : List ℕ → Answer → List (List ℕ)
handed_by os (Answer.Refused x) = []
handed_by os Nothing = []
handed_by os Open = []
handed_by os (Counted o w p v) = by_outcome o [] [] [] [] (part_of os p ∷ [])

-- what readings hand out, in order
unfoldable pub handed_out : List ℕ → List Reading → List (List ℕ)
handed_out os [] = []
handed_out os (r ∷ rs) = handed_by os r.answer ++ handed_out os rs
