-- Document 01, "Control frames": the eight timers, set by reading; and "Sending": lowered by sending.
use Rattle.std.specs.Prelude.{ℕ, ◌-◌, ◌*◌, ◌/◌, ◌%◌, Bool, true, false, cond, List, [], ◌∷◌, get_or, drop, eqb}
use Rattle.line.specs.Limits.{quantum_slots}
use Rattle.line.specs.Octets.{high_first_at}
use Rattle.station.specs.declared.Slots.{Slots}
use Rattle.station.specs.declared.Quanta.{Quanta}
use Rattle.station.specs.declared.Outcome.{Outcome}
use Rattle.station.specs.Numbers.{by_outcome}

-- ---- Control frames

-- "A quantum is 512 bit times, which is 64 slots": the one conversion
abbrev pub slots_of : Quanta → Slots
slots_of q = record { 0 = quantum_slots * q.0 }

-- the quanta that stand at a place, high octet first
unfoldable pub quanta_at : List ℕ → ℕ → Quanta
quanta_at l at = record { 0 = high_first_at l at }

-- "eight timers, one for each class": the timer of a class
unfoldable pub timer : List Slots → ℕ → Slots
timer ts class = get_or ts class (record { 0 = 0 })

-- outcome 8: "all eight timers are set from them"; "Setting replaces the old time"
unfoldable pub set_all : Quanta → List Slots → List Slots
set_all q [] = []
set_all q (t ∷ ts) = slots_of q ∷ set_all q ts

-- outcome 9: "a class octet whose bit n names class n, then eight two-octet quanta. Only named classes are set." The lowest bit of `classes`
-- names the class of the first timer left, and the first two octets of `quanta` are its quanta.
unfoldable pub set_named : ℕ → List ℕ → List Slots → List Slots
set_named classes quanta [] = []
set_named classes quanta (t ∷ ts) =
    cond (eqb (classes % 2) 1) (slots_of (quanta_at quanta 0)) t ∷ set_named (classes / 2) (drop 2 quanta) ts

-- the timers after a reading of frame `f` with this outcome. Pause: "The next two octets are quanta", at 16. PFC: "an unused octet (not looked
-- at)" at 16, "a class octet" at 17, quanta from 18 on.
unfoldable pub timers_after : Outcome → List ℕ → List Slots → List Slots
timers_after o f ts = by_outcome o ts (set_all (quanta_at f 16) ts) (set_named (get_or f 17 0) (drop 18 f) ts) ts ts

-- whether an outcome sets timers: 8 and 9 alone
unfoldable pub sets_timers : Outcome → Bool
sets_timers o = by_outcome o false true true false false

-- ---- Sending

-- "Every call that writes n symbols lowers each timer by n, not below zero." (`-` on ℕ stops at zero.)
unfoldable pub lowered : ℕ → List Slots → List Slots
lowered n [] = []
lowered n (t ∷ ts) = record { 0 = t.0 - n } ∷ lowered n ts
