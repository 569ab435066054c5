-- Document 02, item 10, its claims on the screen call: the data is what a reading of that job alone gives, with any state (`job_0_alone`, `job_1_alone`).
-- Assumes nothing.
use Rattle.std.specs.Prelude.{Err, None, Ok, Option, Some}
use Rattle.station.specs.Numbers.{Checked}
use Prim.Native.Nat.{ℕ, ◌+◌}
use mathlib.Core.Path.{◌≡◌, refl, ap}
use mathlib.Core.List.{List, [], ◌∷◌}
use denote.Enum.Declared.{tag_of}
use types.Run.{OneOf, miss}
use lib.ListN.{drop}
use Rattle.line.specs.Line.{Symbol, capture, find_start, AfterStart, unended, ended, after_start}
use Rattle.line.specs.Table.{first}
use Rattle.station.specs.declared.Address.{Address}
use Rattle.station.specs.declared.Settings.{Settings}
use Rattle.station.specs.declared.State.{State}
use Rattle.station.specs.Station.{fresh}
use Rattle.table.specs.declared.Entry.{Entry}
use Rattle.table.specs.Entries.{mine}
use Rattle.receive.specs.declared.Answer.{Answer}
use Rattle.receive.specs.contracts.Answer.{the_type}
use Rattle.receive.specs.Reading.{empty_part, read_run, read_start, read_found, read_at, read_refusals, read_checked, reading, part_of}
use Rattle.receive.specs.Values.{answer_part}
use Rattle.jobs.specs.Jobs.{of_job, screen_answer, screen_data, reading_data}

-- ---- no state has a part in an answer

module _ (s : Settings) (own : List (Option Address)) (st st' : State) where
  start_any : (i : ℕ) (f : AfterStart) → (read_start s own st i f).answer ≡ (read_start s own st' i f).answer
  unfolding read_start read_run
  start_any i unended = refl
  start_any i (ended r by) = refl

  found_any : (c : List Symbol) (f : Option ℕ) → (read_found s own st c f).answer ≡ (read_found s own st' c f).answer
  unfolding read_found
  found_any c None = refl
  found_any c (Some i) = start_any i (after_start (drop (i + 1) c))

  checked_any : (k : Checked) (os ms : List ℕ) (p : ℕ) → (read_checked k s own st os ms p).answer ≡ (read_checked k s own st' os ms p).answer
  unfolding read_checked read_at
  checked_any (Err x) os ms p = refl
  checked_any (Ok _) os ms p = found_any (capture os ms) (find_start (capture os ms) p)

pub any_state : (s : Settings) (job : ℕ) (es : List Entry) (st st' : State) (os ms : List ℕ) (p : ℕ)
    → (reading s job es st os ms p).answer ≡ (reading s job es st' os ms p).answer
unfolding reading
any_state s job es st st' os ms p = checked_any s (mine job es) st st' (first (read_refusals s job es os ms p)) os ms p

-- ---- "the client data that a reading of the chosen job gives, a part of that job's capture and of no other"

module _ (s : Settings) (es : List Entry) (st : State) (os ms other other' : List ℕ) (p : ℕ) where
  pub job_0_alone : screen_data s 0 es os ms other other' p ≡ reading_data s 0 es st os ms p
  unfolding screen_data screen_answer of_job
  job_0_alone = ap (λ (a : Answer). part_of os (answer_part a)) (any_state s 0 es fresh st os ms p)

  pub job_1_alone : screen_data s 1 es other other' os ms p ≡ reading_data s 1 es st os ms p
  unfolding screen_data screen_answer of_job
  job_1_alone = ap (λ (a : Answer). part_of os (answer_part a)) (any_state s 1 es fresh st os ms p)
