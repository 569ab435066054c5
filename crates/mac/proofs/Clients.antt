-- What the Starts of a capture hand out, as a list over them, and that the calls of a walk hand out just that: `walk-hands`. Assumes nothing.
use Rattle.std.specs.Prelude.{None, Option, Some}
use Prim.Native.Nat.{ℕ, ◌+◌}
use native.Mathlib.Omega.{arith}
use mathlib.Core.Path.{◌≡◌, refl, sym, ap, ap₂, ◌∙◌, subst}
use mathlib.Core.List.{List, [], ◌∷◌, ◌++◌}
use lib.ListN.{length, drop}
use Rattle.line.specs.Limits.{lead_size}
use Rattle.line.specs.Line.{Symbol, capture, is_start, run, ending, AfterStart, unended, ended, ended_by, after_start, MetStart, met_starts}
use Rattle.line.proofs.Symbols.{by_test, met_start, met-other}
use Rattle.line.proofs.Starts.{drop-next}
use Rattle.station.specs.declared.Address.{Address}
use Rattle.station.specs.declared.Settings.{Settings}
use Rattle.station.specs.declared.State.{State}
use Rattle.station.specs.declared.Outcome.{Outcome}
use Rattle.station.specs.declared.Outcome.TheVariants.{Cut, BadPreamble, Undersized, Oversized, WrongFcs, WrongLength, Filtered, PauseTaken, PfcTaken, ControlDropped, HandedOut}
use Rattle.station.specs.Numbers.{by_outcome}
use Rattle.frame.specs.Length.{client_data}
use Rattle.table.specs.declared.Entry.{Entry}
use Rattle.table.specs.Entries.{mine}
use Rattle.receive.specs.declared.Answer.TheVariants.{Counted}
use Rattle.control.specs.Control.{way_carried}
use Rattle.outcome.specs.Outcomes.{outcome, frame_of}
use Rattle.outcome.specs.Status.{status}
use Rattle.receive.specs.Reading.{handed_part, read_run, read_start}
use Rattle.receive.specs.Walk.{walk, handed_by, handed_out}
use Rattle.receive.proofs.Handed.{handed-part}
use Rattle.mac.specs.Demand2.{Readable}
use Rattle.receive.proofs.Walks.{through, walk_through}
use Rattle.mac.proofs.Walk.{OpenLast, open_last}

-- the client data of a run that is handed out, as a list of none or one; `own` is what a job has of the table
unfoldable pub data_handed : Settings → List (Option Address) → AfterStart → List (List ℕ)
data_handed s own unended = []
data_handed s own (ended run by) = by_outcome (outcome s own run by) [] [] [] [] (client_data s.checking (frame_of run) ∷ [])

unfoldable pub clients : Settings → List (Option Address) → List MetStart → List (List ℕ)
clients s own [] = []
clients s own (m ∷ ms) = data_handed s own m.follows ++ clients s own ms

-- each Start stands in the capture with what follows it there
unfoldable pub Placed : List Symbol → List MetStart → Type 0
Placed c [] = Unit {0}
Placed c (m ∷ l) = (m.follows ≡ after_start (drop (m.place + 1) c)) × Placed c l

pub placed : (c : List Symbol) (at : ℕ) (l : List Symbol) → drop at c ≡ l → Placed c (met_starts at l)
unfolding Placed met_starts
placed c at [] e = tt
placed c at (x ∷ xs) e =
    let d : drop (at + 1) c ≡ xs = drop-next at c x xs e in
    by_test (is_start x)
    (λ h. subst (Placed c) (sym (met_start at x xs h)) (ap after_start (sym d), placed c (at + 1) xs d))
    (λ h. subst (Placed c) (sym (met-other at x xs h)) (placed c (at + 1) xs d))

-- a run that follows a Start in the capture is the run there
pub same-run : (r : List ℕ) (by : ℕ) (l : List Symbol) (e : Option Symbol) → ending l ≡ e → ended r by ≡ ended_by (run l) e → r ≡ run l
unfolding ended_by
same-run r by l None h q = let bad : ◌≡◌ {A = ℕ} 0 1 = cc in absurd (omega arith)
same-run r by l (Some y) h q = cc

module _ (s : Settings) (job : ℕ) (es : List Entry) (os ms : List ℕ) where
  -- what the job has of the table
  abbrev own : List (Option Address)
  own = mine job es

  abbrev c : List Symbol
  c = capture os ms

  -- one counted Start
  hands : (i : ℕ) (r : List ℕ) (w v : ℕ) (o : Outcome) → r ≡ run (drop (i + 1) c)
      → handed_by os (Counted o w (handed_part s o (i + lead_size) (frame_of r)) v) ≡ by_outcome o [] [] [] [] (client_data s.checking (frame_of r) ∷ [])
  unfolding handed_by handed_part
  hands i r w v Cut e = refl
  hands i r w v BadPreamble e = refl
  hands i r w v Undersized e = refl
  hands i r w v Oversized e = refl
  hands i r w v WrongFcs e = refl
  hands i r w v WrongLength e = refl
  hands i r w v Filtered e = refl
  hands i r w v PauseTaken e = refl
  hands i r w v PfcTaken e = refl
  hands i r w v ControlDropped e = refl
  hands i r w v HandedOut e = rw e (ap (λ (d : List ℕ). d ∷ []) (handed-part s.checking os ms i))

  hands-one : (n : ℕ) (st : State) (i : ℕ) (f : AfterStart) (l : List MetStart) → (f ≡ unended → l ≡ []) → f ≡ after_start (drop (i + 1) c)
      → ((st : State) → handed_out os (through s own st n l) ≡ clients s own l)
      → handed_out os (through s own st n (record { place = i; follows = f } ∷ l)) ≡ data_handed s own f ++ clients s own l
  unfolding through handed_out read_start read_run data_handed after_start clients handed_by
  hands-one n st i unended l last e ih = ap (clients s own) (sym (last refl))
  hands-one n st i (ended r by) l last e ih =
      ap₂ (λ (a b : List (List ℕ)). a ++ b)
      (hands i r (status s (outcome s own r by) (frame_of r)) (way_carried s own (outcome s own r by) (frame_of r)) (outcome s own r by)
      (same-run r by (drop (i + 1) c) (ending (drop (i + 1) c)) refl e))
      (ih (read_start s own st i (ended r by)).state)

  hands_all : (n : ℕ) (st : State) (l : List MetStart) → OpenLast l → Placed c l → handed_out os (through s own st n l) ≡ clients s own l
  unfolding through handed_out clients OpenLast Placed handed_by
  hands_all n st [] w p = refl
  hands_all n st (m ∷ l) w p = hands-one n st m.place m.follows l w.0 p.0 (λ st'. hands_all n st' l w.1 p.1)

  -- the readings of a walk hand out, as parts of the captured octets, what the capture's Starts do
  pub walk-hands : Readable s job es os ms → (st : State) → handed_out os (walk s job es st os ms) ≡ clients s own (met_starts 0 c)
  walk-hands fine st = ap (handed_out os) (walk_through s job es os ms fine st) ∙ hands_all (length c) st (met_starts 0 c) (open_last 0 c) (placed c 0 c refl)
