-- Demand 2: a walk is a reading for each Start, in order, which gets its outcome, counter, status word and client data: `each_start`. Assumes nothing.
use Rattle.std.specs.Prelude.{Option}
use Prim.Native.Nat.{ℕ, ◌+◌}
use native.Mathlib.Omega.{arith}
use mathlib.Core.Path.{◌≡◌, refl, sym, ◌∙◌, subst}
use mathlib.Core.List.{List, [], ◌∷◌}
use lib.ListN.{length, drop}
use Rattle.line.specs.Limits.{lead_size}
use Rattle.line.specs.Line.{Symbol, capture, run, ending, AfterStart, unended, ended, after_start, MetStart, met_starts}
use Rattle.station.specs.declared.Address.{Address}
use Rattle.station.specs.declared.Settings.{Settings}
use Rattle.station.specs.declared.State.{State}
use Rattle.station.specs.declared.Outcome.{Outcome}
use Rattle.station.specs.declared.Outcome.TheVariants.{Cut, BadPreamble, Undersized, Oversized, WrongFcs, WrongLength, Filtered, PauseTaken, PfcTaken, ControlDropped, HandedOut}
use Rattle.station.specs.Numbers.{by_outcome}
use Rattle.station.proofs.Counters.{length-counted}
use Rattle.table.specs.declared.Entry.{Entry}
use Rattle.table.specs.Entries.{mine}
use Rattle.frame.specs.Length.{client_data}
use Rattle.outcome.specs.Outcomes.{outcome, frame_of}
use Rattle.receive.specs.Reading.{empty_part, handed_part, part_of, state_after, read_run, read_start}
use Rattle.receive.specs.Walk.{walk}
use Rattle.receive.proofs.Handed.{part-inside, handed-part}
use Rattle.receive.proofs.Walks.{through, walk_through}
use Rattle.mac.specs.Demand2.{Readable}
use Rattle.mac.specs.Starts.{Gets, Each, gets, last_open, none_left}
use Rattle.mac.proofs.Walk.{OpenLast, open_last}
use Rattle.mac.proofs.Sum.{counts_same, counts-other}
use Rattle.mac.proofs.Clients.{Placed, placed, same-run}

module _ (s : Settings) (job : ℕ) (es : List Entry) (os ms : List ℕ) where
  -- what the job has of the table
  abbrev own : List (Option Address)
  own = mine job es

  abbrev c : List Symbol
  c = capture os ms

  none-handed : part_of os empty_part ≡ []
  none-handed = part-inside os empty_part (omega arith)

  hands : (i : ℕ) (r : List ℕ) (o : Outcome) → r ≡ run (drop (i + 1) c)
      → part_of os (handed_part s o (i + lead_size) (frame_of r)) ≡ by_outcome o [] [] [] [] (client_data s.checking (frame_of r))
  unfolding handed_part
  hands i r Cut e = none-handed
  hands i r BadPreamble e = none-handed
  hands i r Undersized e = none-handed
  hands i r Oversized e = none-handed
  hands i r WrongFcs e = none-handed
  hands i r WrongLength e = none-handed
  hands i r Filtered e = none-handed
  hands i r PauseTaken e = none-handed
  hands i r PfcTaken e = none-handed
  hands i r ControlDropped e = none-handed
  hands i r HandedOut e = rw e (handed-part s.checking os ms i)

  abbrev Eleven : State → Type 0
  Eleven st = length st.counters ≡ 11

  -- a counted Start
  one-gets : (st : State) → Eleven st → (i : ℕ) (r : List ℕ) (by : ℕ) → r ≡ run (drop (i + 1) c)
      → Gets s own os st i (frame_of r) (outcome s own r by) (read_start s own st i (ended r by))
  unfolding read_start read_run state_after
  one-gets st eleven i r by e =
      let o : Outcome = outcome s own r by in
      record {
        start = refl;
        answer = refl;
        hands = hands i r o e;
        rises = counts_same o o st.counters eleven refl;
        others = λ p. counts-other p o st.counters;
      }

  -- a Start in front: `f` is what follows it
  one : (n : ℕ) (st : State) → Eleven st → (i : ℕ) (f : AfterStart) (l : List MetStart) → (f ≡ unended → l ≡ []) → f ≡ after_start (drop (i + 1) c)
      → ((st : State) → Eleven st → Each s own os st l (through s own st n l))
      → Each s own os st (record { place = i; follows = f } ∷ l) (through s own st n (record { place = i; follows = f } ∷ l))
  unfolding through read_start read_run after_start
  one n st eleven i unended l last e ih = rw (last refl) (last_open refl refl refl)
  one n st eleven i (ended r by) l last e ih =
      gets
      (one-gets st eleven i r by (same-run r by (drop (i + 1) c) (ending (drop (i + 1) c)) refl e))
      (ih (read_start s own st i (ended r by)).state (unfold state_after in length-counted (outcome s own r by) st.counters ∙ eleven))

  all : (n : ℕ) (st : State) → Eleven st → (l : List MetStart) → OpenLast l → Placed c l → Each s own os st l (through s own st n l)
  unfolding through OpenLast Placed
  all n st eleven [] w p = none_left refl refl
  all n st eleven (m ∷ l) w p = one n st eleven m.place m.follows l w.0 p.0 (λ st' eleven'. all n st' eleven' l w.1 p.1)

  -- for any state of eleven counters
  pub each_start : Readable s job es os ms → (st : State) → length st.counters ≡ 11 → Each s own os st (met_starts 0 c) (walk s job es st os ms)
  each_start fine st eleven =
      subst (Each s own os st (met_starts 0 c)) (sym (walk_through s job es os ms fine st))
      (all (length c) st eleven (met_starts 0 c) (open_last 0 c) (placed c 0 c refl))
