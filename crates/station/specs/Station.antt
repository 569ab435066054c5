-- Settings and state: the counters and the fresh state ("Reading one Start"), the flow mode ("Sending"), refusals 1 to 3.
use Rattle.std.specs.Prelude.{ℕ, ◌+◌, ◌-◌, ◌%◌, ◌^◌, Bool, true, false, not, ◌||◌, List, [], ◌∷◌, map, length, replicate, ◌==◌, nat_lt, slice_index, slice_set}
use Rattle.line.specs.Limits.{most_symbols, least_limit, most_limit, most_deficit, lanes}
use Rattle.station.specs.declared.Settings.{Settings}
use Rattle.station.specs.declared.State.{State}
use Rattle.station.specs.declared.Slots.{Slots}
use Rattle.station.specs.declared.Flow.{Flow}
use Rattle.station.specs.declared.Flow.TheVariants.{Off, Pause, Pfc}
use Rattle.station.specs.declared.Port.{Port}
use Rattle.station.specs.declared.Port.TheVariants.{Plain, FourLane}
use Rattle.station.specs.declared.Outcome.{Outcome}
use Rattle.station.specs.Numbers.{outcome_number}

-- ---- Reading one Start

-- "Each outcome has a … counter that rolls over to zero"; document 02, item 6: "Make all eleven 64 bits"
abbrev pub counter_size : ℕ
counter_size = 2 ^ 64

-- the counter of an outcome
unfoldable pub counter : Outcome → List ℕ → ℕ
counter o cs = slice_index cs (outcome_number o - 1)

-- an outcome's counter "rises by one", and no other does
unfoldable pub counted : Outcome → List ℕ → List ℕ
counted o cs = slice_set cs (outcome_number o - 1) ((counter o cs + 1) % counter_size)

-- "the eleven counters together"
unfoldable pub total : List ℕ → ℕ
total [] = 0
total (c ∷ cs) = c + total cs

-- document 02, item 6: "The management screen goes on showing the 32-bit values, each the remainder of the wide one."
abbrev pub shown_size : ℕ
shown_size = 2 ^ 32

abbrev pub shown : ℕ → ℕ
shown n = n % shown_size

unfoldable pub screen_of : List ℕ → List ℕ
screen_of cs = map shown cs

-- "The state is these eleven counters and the eight timers below", and, by document 02, item 5, the deficit count, which "is part of the state": a
-- state with other counters, one with other timers, and one with another deficit count. Nothing else of it changes.
abbrev pub with_counters : List ℕ → State → State
with_counters cs st = record { counters = cs; timers = st.timers; deficit = st.deficit }

abbrev pub with_timers : List Slots → State → State
with_timers ts st = record { counters = st.counters; timers = ts; deficit = st.deficit }

abbrev pub with_deficit : ℕ → State → State
with_deficit count st = record { counters = st.counters; timers = st.timers; deficit = count }

-- "a fresh state is all zeros"
unfoldable pub fresh : State
fresh = record { counters = replicate 11 0; timers = replicate 8 (record { 0 = 0 }); deficit = 0 }

-- ---- Sending: "Flow mode is none, `pause` or `PFC`."

abbrev pub is_pause_mode : Flow → Bool
is_pause_mode Off = false
is_pause_mode Pause = true
is_pause_mode Pfc = false

abbrev pub is_pfc_mode : Flow → Bool
is_pfc_mode Off = false
is_pfc_mode Pause = false
is_pfc_mode Pfc = true

-- ---- Refusals and their order

-- "group bit (lowest bit of the first octet)"
unfoldable pub is_group : List ℕ → Bool
is_group address = slice_index address 0 % 2 == 1

-- 1: "own address has its group bit …, or M outside 1518 to 9618"; document 02, item 10: "In refusal 1 the listed count falls away."
unfoldable pub bad_settings : Settings → Bool
bad_settings s = is_group s.own.0 || nat_lt s.limit least_limit || nat_lt most_limit s.limit

-- 2: "octet and mark buffers differ in length, or exceed 65,536"
unfoldable pub bad_buffers : List ℕ → List ℕ → Bool
bad_buffers os ms = not (length os == length ms) || nat_lt most_symbols (length os)

-- 3: "place beyond the buffers' length"
unfoldable pub bad_place : List ℕ → ℕ → Bool
bad_place os place = nat_lt (length os) place

-- document 02, item 5: "when sending a frame on this port only, 3 also for a place not divisible by four"
unfoldable pub bad_start : Port → List ℕ → ℕ → Bool
bad_start Plain os place = bad_place os place
bad_start FourLane os place = bad_place os place || not (place % lanes == 0)

-- "then new 19, deficit count above 3"
unfoldable pub high_deficit : Port → ℕ → Bool
high_deficit Plain count = false
high_deficit FourLane count = nat_lt most_deficit count
