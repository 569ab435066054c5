-- Outcomes that set no timer. Assumes nothing.
use Prim.Native.Nat.{ℕ}
use mathlib.Core.Path.{◌≡◌, refl, sym}
use mathlib.Core.Bool.{false, false≢true}
use mathlib.Core.List.{List}
use Rattle.station.specs.declared.Slots.{Slots}
use Rattle.station.specs.declared.Outcome.{Outcome}
use Rattle.station.specs.declared.Outcome.TheVariants.{Cut, BadPreamble, Undersized, Oversized, WrongFcs, WrongLength, Filtered, PauseTaken, PfcTaken, ControlDropped, HandedOut}
use Rattle.flow.specs.Timers.{timers_after, sets_timers}

-- no other outcome sets any
pub sets_none : (o : Outcome) → (o ≡ PauseTaken → ⊥) → (o ≡ PfcTaken → ⊥) → sets_timers o ≡ false
unfolding sets_timers
sets_none Cut h g = refl
sets_none BadPreamble h g = refl
sets_none Undersized h g = refl
sets_none Oversized h g = refl
sets_none WrongFcs h g = refl
sets_none WrongLength h g = refl
sets_none Filtered h g = refl
sets_none PauseTaken h g = absurd (h refl)
sets_none PfcTaken h g = absurd (g refl)
sets_none ControlDropped h g = refl
sets_none HandedOut h g = refl

-- and then the timers stay as they are
pub stays : (o : Outcome) (f : List ℕ) (ts : List Slots) → sets_timers o ≡ false → ts ≡ timers_after o f ts
unfolding sets_timers timers_after
stays Cut f ts h = refl
stays BadPreamble f ts h = refl
stays Undersized f ts h = refl
stays Oversized f ts h = refl
stays WrongFcs f ts h = refl
stays WrongLength f ts h = refl
stays Filtered f ts h = refl
stays PauseTaken f ts h = absurd (false≢true (sym h))
stays PfcTaken f ts h = absurd (false≢true (sym h))
stays ControlDropped f ts h = refl
stays HandedOut f ts h = refl
