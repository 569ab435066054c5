-- Document 02, item 10: "a job's readings depend on its capture, settings, state and own entries, and on entry numbers in item 7's answer only through where
-- the table put them": `own-reads`, `own-walks`, `placed-reads`. Assumes nothing.
use Rattle.std.specs.Prelude.{Err, None, Ok, Option, Some}
use Rattle.station.specs.Numbers.{Checked}
use Rattle.std.proofs.Common.{◌≡◌, ℕ, zero, suc, ◌+◌, Bool, true, false, List, [], ◌∷◌, length, drop, refl, ap, ◌∙◌, ap₂}
use Rattle.line.specs.Line.{Symbol, capture, find_start, AfterStart, unended, ended, after_start}
use Rattle.line.specs.Table.{◌⇒◌, ◌∣◌, otherwise, first}
use Rattle.station.specs.declared.Address.{Address}
use Rattle.station.specs.declared.Settings.{Settings}
use Rattle.station.specs.declared.State.{State}
use Rattle.station.specs.declared.Outcome.{Outcome}
use Rattle.station.specs.declared.Refusal.TheVariants.{BadSettings, BadBuffers, BadPlace, BadJob, BadTable}
use Rattle.station.specs.Station.{bad_settings, bad_buffers, bad_place}
use Rattle.table.specs.declared.Entry.{Entry}
use Rattle.table.specs.Entries.{mine}
use Rattle.table.specs.Tests.{bad_job, bad_table}
use Rattle.table.specs.Way.{accepts}
use Rattle.control.proofs.Ways.{filtered_alike}
use Rattle.outcome.specs.Outcomes.{outcome}
use Rattle.outcome.proofs.Rules.{outcome_alike}
use Rattle.receive.specs.declared.Reading.{Reading}
use Rattle.receive.specs.Reading.{read_run, read_start, read_found, read_at, read_refusals, read_checked, reading}
use Rattle.receive.specs.Values.{is_counted}
use Rattle.receive.specs.Walk.{readings_from, walk, walk_of, walked}
use Rattle.receive.specs.Jobs.{unnumbered}

-- two tables that both give 20 or both do not are refused alike: of the entries, no other refusal asks
refused_alike : (s : Settings) (job : ℕ) (es es' : List Entry) (os ms : List ℕ) (p : ℕ) → bad_table es ≡ bad_table es'
    → first (read_refusals s job es os ms p) ≡ first (read_refusals s job es' os ms p)
unfolding read_refusals
refused_alike s job es es' os ms p same =
    ap (λ (b : Bool).
    first (
    bad_settings s ⇒ Err BadSettings
    ∣ bad_job job ⇒ Err BadJob
    ∣ bad_buffers os ms ⇒ Err BadBuffers
    ∣ bad_place os p ⇒ Err BadPlace
    ∣ b ⇒ Err BadTable
    ∣ otherwise (Ok tt)
    ))
    same

-- ---- "own entries": two tables in which the job has the same entries, whatever the other job has

module _ (s : Settings) (job : ℕ) (es es' : List Entry) (sound : bad_table es ≡ bad_table es') (own : mine job es ≡ mine job es') where
  pub own-reads : (st : State) (os ms : List ℕ) (p : ℕ) → reading s job es st os ms p ≡ reading s job es' st os ms p
  unfolding reading
  own-reads st os ms p =
      ap₂ (λ (k : Checked) (m : List (Option Address)). read_checked k s m st os ms p) (refused_alike s job es es' os ms p sound) own

  -- what follows a reading
  abbrev then : ℕ → List Entry → List ℕ → List ℕ → Reading → List Reading
  then most e os ms r = r ∷ elim (is_counted r.answer) [ true ↦ readings_from most s job e r.state os ms r.next | false ↦ [] ]

  on : (most : ℕ) (os ms : List ℕ) → ((st : State) (p : ℕ) → readings_from most s job es st os ms p ≡ readings_from most s job es' st os ms p) → (r : Reading)
      → then most es os ms r ≡ then most es' os ms r
  on most os ms ih r = by-counted (is_counted r.answer)
    where
      by-counted : (b : Bool)
          → ◌≡◌ {A = List Reading} (r ∷ elim b [ true ↦ readings_from most s job es r.state os ms r.next | false ↦ [] ])
          (r ∷ elim b [ true ↦ readings_from most s job es' r.state os ms r.next | false ↦ [] ])
      by-counted true = ap (λ (rs : List Reading). r ∷ rs) (ih r.state r.next)
      by-counted false = refl

  readings_alike : (most : ℕ) (os ms : List ℕ) (st : State) (p : ℕ) → readings_from most s job es st os ms p ≡ readings_from most s job es' st os ms p
  unfolding readings_from
  readings_alike zero os ms st p = refl
  readings_alike (suc most) os ms st p =
      on most os ms (λ st' q. readings_alike most os ms st' q) (reading s job es st os ms p) ∙ ap (then most es' os ms) (own-reads st os ms p)

  pub own-walks : (st : State) (os ms : List ℕ) → walked s job es st os ms ≡ walked s job es' st os ms
  unfolding walked walk
  own-walks st os ms = ap (walk_of 0 st) (readings_alike (length os + 1) os ms st 0)

-- ---- "only through where the table put them": two tables in which the job accepts the same, wherever the entries stand

module _ (s : Settings) (own own' : List (Option Address)) (same : (d : List ℕ) → accepts s own d ≡ accepts s own' d) where
  run_alike : (st : State) (i : ℕ) (run : List ℕ) (o : Outcome) → unnumbered (read_run s own st i run o) ≡ unnumbered (read_run s own' st i run o)
  unfolding read_run
  run_alike st i run o = refl

  start_alike : (st : State) (i : ℕ) (a : AfterStart) → unnumbered (read_start s own st i a) ≡ unnumbered (read_start s own' st i a)
  unfolding read_start
  start_alike st i unended = refl
  start_alike st i (ended run by) =
      run_alike st i run (outcome s own run by)
      ∙ ap (λ (o : Outcome). unnumbered (read_run s own' st i run o)) (outcome_alike s own own' (filtered_alike s own own' same) run by)

  found_alike : (st : State) (c : List Symbol) (f : Option ℕ) → unnumbered (read_found s own st c f) ≡ unnumbered (read_found s own' st c f)
  unfolding read_found
  found_alike st c None = refl
  found_alike st c (Some i) = start_alike st i (after_start (drop (i + 1) c))

  checked_alike : (k : Checked) (st : State) (os ms : List ℕ) (p : ℕ) → unnumbered (read_checked k s own st os ms p) ≡ unnumbered (read_checked k s own' st os ms p)
  unfolding read_checked read_at
  checked_alike (Err x) st os ms p = refl
  checked_alike (Ok _) st os ms p = found_alike st (capture os ms) (find_start (capture os ms) p)

pub placed-reads : (s : Settings) (job : ℕ) (es es' : List Entry) → bad_table es ≡ bad_table es' → ((d : List ℕ) → accepts s (mine job es) d ≡ accepts s (mine job es') d)
    → (st : State) (os ms : List ℕ) (p : ℕ) → unnumbered (reading s job es st os ms p) ≡ unnumbered (reading s job es' st os ms p)
unfolding reading
placed-reads s job es es' sound same st os ms p =
    ap (λ (k : Checked). unnumbered (read_checked k s (mine job es) st os ms p)) (refused_alike s job es es' os ms p sound)
    ∙ checked_alike s (mine job es) (mine job es') same (first (read_refusals s job es' os ms p)) st os ms p
