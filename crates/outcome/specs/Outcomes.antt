-- Document 01, "Reading one Start": the table of outcomes. `own` is what a job has of the address table (document 02, item 10).
use Rattle.std.specs.Prelude.{ℕ, Bool, not, ◌||◌, cond, List, length, take, drop, eqb, ltb, leb, Option}
use Rattle.line.specs.Limits.{preamble_size}
use Rattle.line.specs.Line.{terminate, preamble}
use Rattle.line.specs.Octets.{same_octets}
use Rattle.line.specs.Table.{Table, ◌⇒◌, ◌∣◌, otherwise, first}
use Rattle.station.specs.declared.Address.{Address}
use Rattle.station.specs.declared.Settings.{Settings}
use Rattle.station.specs.declared.Outcome.{Outcome}
use Rattle.station.specs.declared.Outcome.TheVariants.{Cut, BadPreamble, Undersized, Oversized, WrongFcs, WrongLength, Filtered, PauseTaken, PfcTaken, ControlDropped, HandedOut}
use Rattle.station.specs.Numbers.{outcome_number}
use Rattle.fcs.specs.Fcs.{fcs_of}
use Rattle.frame.specs.Frame.{undersized, oversized, covered, wrong_fcs}
use Rattle.frame.specs.Length.{wrong_length}
use Rattle.control.specs.Control.{filtered, takes_pause, takes_pfc, drops_control}
use Rattle.outcome.specs.declared.Judged.{Judged}

-- rule 1: "ended by anything but Terminate"
unfoldable pub cut : ℕ → Bool
cut by = not (eqb by terminate)

-- rule 2: "run under 7 octets, or the first 7 wrong"
unfoldable pub bad_preamble : List ℕ → Bool
bad_preamble run = ltb (length run) preamble_size || not (same_octets (take preamble_size run) preamble)

-- "the frame from destination to FCS", of a run
unfoldable pub frame_of : List ℕ → List ℕ
frame_of run = drop preamble_size run

-- the table, for a run ended by the control octet `by`, whose frame is `f`
unfoldable pub outcomes : Settings → List (Option Address) → List ℕ → ℕ → List ℕ → Table Outcome
outcomes s own run by f =
    cut by ⇒ Cut
    ∣ bad_preamble run ⇒ BadPreamble
    ∣ undersized f ⇒ Undersized
    ∣ oversized s.limit f ⇒ Oversized
    ∣ wrong_fcs f ⇒ WrongFcs
    ∣ wrong_length s.checking f ⇒ WrongLength
    ∣ filtered s own f ⇒ Filtered
    ∣ takes_pause s f ⇒ PauseTaken
    ∣ takes_pfc s f ⇒ PfcTaken
    ∣ drops_control s f ⇒ ControlDropped
    ∣ otherwise HandedOut

-- "the first rule that holds gives the outcome"
unfoldable pub outcome : Settings → List (Option Address) → List ℕ → ℕ → Outcome
outcome s own run by = first (outcomes s own run by (frame_of run))

-- the outcome with the check that rule 5 compared with, of a frame that came so far, else 0
unfoldable pub check_made : Outcome → List ℕ → ℕ
check_made o f = cond (leb 5 (outcome_number o)) (fcs_of (covered f)) 0

unfoldable pub judged : Settings → List (Option Address) → List ℕ → ℕ → Judged
judged s own run by = record { outcome = outcome s own run by; check = check_made (outcome s own run by) (frame_of run) }
