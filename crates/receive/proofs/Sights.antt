-- A reading in two steps: what is seen of a run is its reading (`sight_read`), and only a Start that is counted changes the state. Assumes nothing.
use Rattle.std.specs.Prelude.{Option}
use Rattle.std.proofs.Common.{◌≡◌, ℕ, ◌+◌, List, [], ◌∷◌, length, refl, ap₂}
use denote.Enum.Declared.{tag_of}
use types.Run.{OneOf, miss}
use Rattle.line.specs.Limits.{lead_size}
use Rattle.line.specs.Octets.{between}
use Rattle.station.specs.declared.Address.{Address}
use Rattle.station.specs.declared.Settings.{Settings}
use Rattle.station.specs.declared.Slots.{Slots}
use Rattle.station.specs.declared.State.{State}
use Rattle.station.specs.declared.Outcome.{Outcome}
use Rattle.control.specs.Control.{way_carried}
use Rattle.outcome.specs.Outcomes.{frame_of}
use Rattle.outcome.specs.Status.{status}
use Rattle.receive.specs.declared.Answer.{Answer}
use Rattle.receive.specs.declared.Answer.TheVariants.{Refused, Nothing, Open, Counted}
use Rattle.receive.specs.declared.Sight.{Sight}
use Rattle.receive.specs.contracts.Answer.{the_type}
use Rattle.receive.specs.Reading.{state_after, handed_part, read_run}
use Rattle.receive.specs.Steps.{sight_of, after_sight, read_of}

-- a state of its parts, as the code puts it together: the deficit count stays
abbrev pub at-state : ℕ → List ℕ → List Slots → State
at-state count cs ts = record { counters = cs; timers = ts; deficit = count }

pub sight_read : (s : Settings) (own : List (Option Address)) (os : List ℕ) (i : ℕ) (run : List ℕ) (o : Outcome) (way : ℕ) (st : State)
    → between os (i + 1) (i + 1 + length run) ≡ run → way ≡ way_carried s own o (frame_of run) → read_of os (sight_of s i run o way) st ≡ read_run s own st i run o
unfolding sight_of read_of after_sight read_run
sight_read s own os i run o way st h w =
    ap₂ (λ (r : List ℕ) (v : ℕ). record {
      answer = Counted o (status s o (frame_of run)) (handed_part s o (i + lead_size) (frame_of run)) v;
      start = i;
      next = i + 1 + length run;
      state = state_after o (frame_of r) st;
    }) h w

abbrev others : List ℕ
others = 0 ∷ 1 ∷ 2 ∷ []

pub not-counted : (os : List ℕ) (l : Sight) (st : State) → OneOf others (tag_of the_type l.answer) → st ≡ after_sight os l st
unfolding after_sight
not-counted os l st h = go l.answer h
  where
    go : (a : Answer) → OneOf others (tag_of the_type a)
        → st ≡ elim a [ Refused x ↦ st | Nothing ↦ st | Open ↦ st | Counted o w p v ↦ state_after o (frame_of (between os (l.start + 1) l.next)) st ]
    go (Refused x) k = refl
    go Nothing k = refl
    go Open k = refl
    go (Counted o w p v) k = absurd (miss others 3 tt k)
