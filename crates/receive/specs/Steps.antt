-- Internal: a reading in two steps, as the code takes them: what is seen, in which no state has a part, and the state after it. No promise to a
-- caller needs it.
use Rattle.std.specs.Prelude.{◌≡◌, ℕ, ◌+◌, ◌≤◌, Bool, true, List, length}
use Rattle.line.specs.Limits.{lead_size}
use Rattle.line.specs.Octets.{between}
use Rattle.station.specs.declared.Settings.{Settings}
use Rattle.station.specs.declared.State.{State}
use Rattle.station.specs.declared.Part.{Part}
use Rattle.station.specs.declared.Outcome.{Outcome}
use Rattle.station.specs.Numbers.{by_outcome}
use Rattle.fields.specs.declared.Layout.{Layout}
use Rattle.frame.specs.Frame.{data_from}
use Rattle.frame.specs.Length.{handed_of}
use Rattle.table.specs.declared.Entry.{Entry}
use Rattle.outcome.specs.Outcomes.{frame_of}
use Rattle.outcome.specs.Status.{status}
use Rattle.receive.specs.declared.Answer.TheVariants.{Refused, Nothing, Open, Counted}
use Rattle.receive.specs.declared.Sight.{Sight}
use Rattle.receive.specs.declared.Reading.{Reading}
use Rattle.receive.specs.Reading.{empty_part, state_after, handed_part, reading}
use Rattle.receive.specs.Values.{is_counted}

-- the client data's part, of a frame that begins at a place and is laid out as l says
unfoldable pub part_at : Bool → Outcome → ℕ → List ℕ → Layout → Part
part_at checking o at f l =
    by_outcome o empty_part empty_part empty_part empty_part
    (record { at = at + l.place; len = length (handed_of checking l.field (data_from l.place f)) })

-- what is seen of a Start at place i, the outcome of its run, and the number of the address that let the frame in
unfoldable pub sight_of : Settings → ℕ → List ℕ → Outcome → ℕ → Sight
sight_of s i run o way =
    record {
      answer = Counted o (status s o (frame_of run)) (handed_part s o (i + lead_size) (frame_of run)) way;
      start = i;
      next = i + 1 + length run;
    }

-- the state after it: the run of a Start that is counted stands between its two places
unfoldable pub after_sight : List ℕ → Sight → State → State
after_sight os l st =
    elim l.answer [
      | Refused x ↦ st
      | Nothing ↦ st
      | Open ↦ st
      | Counted o w p v ↦ state_after o (frame_of (between os (l.start + 1) l.next)) st
    ]

unfoldable pub read_of : List ℕ → Sight → State → Reading
read_of os l st = record { answer = l.answer; start = l.start; next = l.next; state = after_sight os l st }

-- the places of a Start that is counted lie inside the octets
abbrev pub Inside : List ℕ → Sight → Type 0
Inside os l = is_counted l.answer ≡ true → (l.start + 1 ≤ l.next) × (l.next ≤ length os)

-- l is what a reading sees, whatever the state is
abbrev pub Seen : Settings → ℕ → List Entry → List ℕ → List ℕ → ℕ → Sight → Type 0
Seen s job es os ms place l = ((st : State) → read_of os l st ≡ reading s job es st os ms place) × Inside os l
