-- Document 02, item 7: what the claim that nothing else of a reading moved speaks of: the reading as it was before, by the same rules and refusals. The
-- theorems are proofs/Ways.antt.
use Rattle.station.specs.Numbers.{Checked}
use Rattle.std.specs.Prelude.{ℕ, ◌+◌, List, length, drop, Err, None, Ok, Option, Some}
use Rattle.line.specs.Limits.{lead_size}
use Rattle.line.specs.Line.{capture, find_start, unended, ended, after_start}
use Rattle.line.specs.Table.{first}
use Rattle.station.specs.declared.Settings.{Settings}
use Rattle.station.specs.declared.State.{State}
use Rattle.station.specs.declared.Outcome.{Outcome}
use Rattle.table.specs.declared.Entry.{Entry}
use Rattle.table.specs.Entries.{mine}
use Rattle.outcome.specs.Outcomes.{outcome, frame_of}
use Rattle.outcome.specs.Status.{status}
use Rattle.receive.specs.declared.Answer.TheVariants.{Refused, Nothing, Open, Counted}
use Rattle.receive.specs.declared.Reading.{Reading}
use Rattle.receive.specs.Reading.{state_after, handed_part, read_refusals}

-- a Start at place i with its outcome, which knows of no such number: 0 stands in its place
unfoldable pub run_before : Settings → State → ℕ → List ℕ → Outcome → Reading
run_before s st i run o =
    record {
      answer = Counted o (status s o (frame_of run)) (handed_part s o (i + lead_size) (frame_of run)) 0;
      start = i;
      next = i + 1 + length run;
      state = state_after o (frame_of run) st;
    }

-- a reading by document 01, with the job's own entries for the listed addresses: refused; `none`; `open`; or a Start with its outcome
unfoldable pub reading_before : Settings → ℕ → List Entry → State → List ℕ → List ℕ → ℕ → Reading
reading_before s job es st os ms place =
    elim (first (read_refusals s job es os ms place)) [
      | Err x ↦ record { answer = Refused x; start = place; next = place; state = st }
      | Ok _ ↦ elim (find_start (capture os ms) place) [
        | None ↦ record { answer = Nothing; start = length (capture os ms); next = length (capture os ms); state = st }
        | Some i ↦ elim (after_start (drop (i + 1) (capture os ms))) [
          | unended ↦ record { answer = Open; start = i; next = i; state = st }
          | ended run by ↦ run_before s st i run (outcome s (mine job es) run by)
        ]
      ]
    ]
