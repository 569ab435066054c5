-- A reading, case by case, as the code finds it. Assumes nothing.
use Rattle.std.specs.Prelude.{Err, None, Ok, Option, Some}
use Rattle.station.specs.Numbers.{Checked}
use Rattle.std.proofs.Common.{◌≡◌, ℕ, ◌+◌, List, length, get_or, ap, ◌∙◌}
use Rattle.line.specs.Line.{capture, find_start, find_control}
use Rattle.line.specs.Octets.{between}
use Rattle.line.specs.Table.{first}
use Rattle.line.proofs.Buffers.{length-capture}
use Rattle.line.proofs.Places.{after_found, after_nothing}
use Rattle.station.specs.declared.Address.{Address}
use Rattle.station.specs.declared.Settings.{Settings}
use Rattle.station.specs.declared.State.{State}
use Rattle.station.specs.declared.Refusal.{Refusal}
use Rattle.receive.specs.declared.Answer.{Answer}
use Rattle.receive.specs.declared.Answer.TheVariants.{Open}
use Rattle.table.specs.declared.Entry.{Entry}
use Rattle.table.specs.Entries.{mine}
use Rattle.outcome.specs.Outcomes.{outcome}
use Rattle.receive.specs.Reading.{read_refusals, read_checked, reading, read_at, read_found, read_start, read_run}
use Rattle.receive.proofs.Refusals.{passed}

module _ (s : Settings) (job : ℕ) (es : List Entry) (st : State) (os ms : List ℕ) (p : ℕ) where
  -- the job's own entries, of which alone a reading that is not refused sees anything
  abbrev own : List (Option Address)
  own = mine job es

  pub read-refused : (x : Refusal) → first (read_refusals s job es os ms p) ≡ Err x
      → reading s job es st os ms p ≡ record { answer = Answer.Refused x; start = p; next = p; state = st }
  unfolding reading read_checked
  read-refused x h = ap (λ (k : Checked). read_checked k s own st os ms p) h

  module _ (fine : first (read_refusals s job es os ms p) ≡ Ok tt) where
    goes_on : (f : Option ℕ) → find_start (capture os ms) p ≡ f → reading s job es st os ms p ≡ read_found s own st (capture os ms) f
    unfolding reading read_checked read_at
    goes_on f h = ap (λ (k : Checked). read_checked k s own st os ms p) fine ∙ ap (read_found s own st (capture os ms)) h

    pub read_none : find_start (capture os ms) p ≡ None
        → reading s job es st os ms p ≡ record { answer = Answer.Nothing; start = length os; next = length os; state = st }
    unfolding read_found
    read_none h =
        goes_on None h
        ∙ ap (λ (n : ℕ). record { answer = Answer.Nothing; start = n; next = n; state = st }) (length-capture os ms (passed s job es os ms p fine).even)

    module _ (i : ℕ) (found : find_start (capture os ms) p ≡ Some i) where
      pub read_open : find_control (capture os ms) (i + 1) ≡ None
          → reading s job es st os ms p ≡ record { answer = Open; start = i; next = i; state = st }
      unfolding read_found read_start
      read_open h = goes_on (Some i) found ∙ ap (read_start s own st i) (after_nothing os ms (i + 1) h)

      pub read-ended : (e : ℕ) → find_control (capture os ms) (i + 1) ≡ Some e
          → reading s job es st os ms p ≡ read_run s own st i (between os (i + 1) e) (outcome s own (between os (i + 1) e) (get_or os e 0))
      unfolding read_found read_start
      read-ended e h = goes_on (Some i) found ∙ ap (read_start s own st i) (after_found os ms (passed s job es os ms p fine).even (i + 1) e h)
