-- Document 02, item 10: "Two jobs, 0 and 1, read two captures with one address table", and the screen call.
use Rattle.std.specs.Prelude.{ℕ, cond, List, [], eqb}
use Rattle.station.specs.declared.Settings.{Settings}
use Rattle.station.specs.declared.State.{State}
use Rattle.station.specs.Station.{fresh}
use Rattle.table.specs.declared.Entry.{Entry}
use Rattle.receive.specs.declared.Answer.{Answer}
use Rattle.receive.specs.Reading.{reading, part_of}
use Rattle.receive.specs.Values.{answer_part}

-- of two captures' octets, or marks, the job's: job 0 has the zeroth, job 1 the first, and no other job has any
unfoldable pub of_job : ℕ → List ℕ → List ℕ → List ℕ
of_job job zeroth first = cond (eqb job 0) zeroth (cond (eqb job 1) first [])

-- "A screen call gives the client data that a reading of the chosen job gives": what such a reading answers, which no state changes (`any_state`)
unfoldable pub screen_answer : Settings → ℕ → List Entry → List ℕ → List ℕ → List ℕ → List ℕ → ℕ → Answer
screen_answer s job es os₀ ms₀ os₁ ms₁ place = (reading s job es fresh (of_job job os₀ os₁) (of_job job ms₀ ms₁) place).answer

-- "a part of that job's capture and of no other"
unfoldable pub screen_data : Settings → ℕ → List Entry → List ℕ → List ℕ → List ℕ → List ℕ → ℕ → List ℕ
screen_data s job es os₀ ms₀ os₁ ms₁ place = part_of (of_job job os₀ os₁) (answer_part (screen_answer s job es os₀ ms₀ os₁ ms₁ place))

-- "the client data that a reading of the chosen job gives": of a reading of one capture, the octets of the part that it hands out
abbrev pub reading_data : Settings → ℕ → List Entry → State → List ℕ → List ℕ → ℕ → List ℕ
reading_data s job es st os ms place = part_of os (answer_part (reading s job es st os ms place).answer)
