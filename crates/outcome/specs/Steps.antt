-- Internal: the table of outcomes in steps, before the tags are counted and after the FCS is looked at, as the code takes them. No promise to a
-- caller needs it.
use Rattle.std.specs.Prelude.{ℕ, List, None, Option, Some}
use Rattle.line.specs.Table.{Table, ◌⇒◌, ◌∣◌, otherwise}
use Rattle.station.specs.declared.Address.{Address}
use Rattle.station.specs.declared.Settings.{Settings}
use Rattle.station.specs.declared.Outcome.{Outcome}
use Rattle.station.specs.declared.Outcome.TheVariants.{Cut, BadPreamble, Undersized, WrongLength, Filtered, PauseTaken, PfcTaken, ControlDropped, HandedOut}
use Rattle.fields.specs.declared.Layout.{Layout}
use Rattle.frame.specs.Frame.{undersized}
use Rattle.frame.specs.Length.{breaks_length}
use Rattle.control.specs.Control.{filtered, takes_pause, takes_pfc, drops_control}
use Rattle.outcome.specs.Outcomes.{cut, bad_preamble, frame_of}

-- rules 1 to 3
unfoldable pub early_outcomes : List ℕ → ℕ → Table (Option Outcome)
early_outcomes run by =
    cut by ⇒ Some Cut
    ∣ bad_preamble run ⇒ Some BadPreamble
    ∣ undersized (frame_of run) ⇒ Some Undersized
    ∣ otherwise None

-- rules 6 to 11, of a frame laid out as l says
unfoldable pub late_outcomes : Settings → List (Option Address) → List ℕ → Layout → Table Outcome
late_outcomes s own f l =
    breaks_length s.checking l f ⇒ WrongLength
    ∣ filtered s own f ⇒ Filtered
    ∣ takes_pause s f ⇒ PauseTaken
    ∣ takes_pfc s f ⇒ PfcTaken
    ∣ drops_control s f ⇒ ControlDropped
    ∣ otherwise HandedOut
