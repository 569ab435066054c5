-- Worked cases of the definitions, by computation: what a dozen Starts are told, worked out apart from the definitions. Assumes nothing.
use Prim.Native.Nat.{ℕ}
use mathlib.Core.Path.{◌≡◌, refl}
use mathlib.Core.Bool.{true, false}
use mathlib.Core.List.{List, [], ◌∷◌, ◌++◌}
use lib.ListN.{replicate}
use Rattle.station.specs.declared.Settings.{Settings}
use Rattle.station.specs.declared.Flow.{Flow}
use Rattle.station.specs.declared.Flow.TheVariants.{Off, Pause}
use Rattle.table.specs.Entries.{entries_of}
use Rattle.reason.specs.declared.Reason.TheVariants.{CutAt, ShortRun, WrongOctet, TooShort, FcsDiffers, LengthBroken, NotForUs, TookPause, DroppedControl, Handed}
use Rattle.reason.specs.declared.Why.{Why}
use Rattle.reason.specs.declared.Why.TheVariants.{Open, Because}
use Rattle.reason.specs.Reasons.{explained}
use Rattle.reason.specs.Computed.{computed}

-- own 02-00-00-00-00-01, checking on, M 1518
abbrev settings : Flow → Settings
settings mode =
    record {
      own = record { 0 = 2 ∷ 0 ∷ 0 ∷ 0 ∷ 0 ∷ 1 ∷ [] };
      broadcast = true;
      promiscuous = false;
      checking = true;
      limit = 1518;
      flow = mode;
      passing = false;
    }

-- a table that nobody holds an entry of
abbrev nobody : List ℕ
nobody = replicate 128 0

-- a Start ended by a Start
case_cut : explained (settings Off) 0 (entries_of nobody)
    ((251 ∷ 251 ∷ 253 ∷ []))
    ((1 ∷ 1 ∷ 1 ∷ [])) 0
    ≡ record { answer = Because (CutAt 1 251); start = 0; next = 1 }
unfolding computed
case_cut = refl

-- a run of no octets
case_short-run : explained (settings Off) 0 (entries_of nobody)
    ((251 ∷ 251 ∷ 253 ∷ []))
    ((1 ∷ 1 ∷ 1 ∷ [])) 1
    ≡ record { answer = Because (ShortRun 0); start = 1; next = 2 }
unfolding computed
case_short-run = refl

-- the third octet of the preamble wrong, behind an Idle
case_wrong-octet : explained (settings Off) 0 (entries_of nobody)
    ((7 ∷ 251 ∷ 85 ∷ 85 ∷ 86 ∷ 85 ∷ 85 ∷ 85 ∷ 213 ∷ 253 ∷ []))
    ((1 ∷ 1 ∷ []) ++ replicate 7 0 ++ (1 ∷ [])) 0
    ≡ record { answer = Because (WrongOctet 4); start = 1; next = 9 }
unfolding computed
case_wrong-octet = refl

-- 63 octets
case_too_short : explained (settings Off) 0 (entries_of nobody)
    ((251 ∷ []) ++ replicate 6 85 ++ (213 ∷ []) ++ replicate 63 0 ++ (253 ∷ []))
    ((1 ∷ []) ++ replicate 70 0 ++ (1 ∷ [])) 0
    ≡ record { answer = Because (TooShort 63 64); start = 0; next = 71 }
unfolding computed
case_too_short = refl

-- one bit of the FCS wrong
case_fcs_differs : explained (settings Off) 0 (entries_of nobody)
    ((251 ∷ []) ++ replicate 6 85 ++ (213 ∷ 2 ∷ 0 ∷ 0 ∷ 0 ∷ 0 ∷ 1 ∷ 2 ∷ 0 ∷ 0 ∷ 0 ∷ 0 ∷ 7 ∷ 0 ∷ 3 ∷ 97 ∷ 98 ∷ 99 ∷ []) ++ replicate 43 0 ++ (132 ∷ 12 ∷ 245 ∷ 220 ∷ 253 ∷ []))
    ((1 ∷ []) ++ replicate 71 0 ++ (1 ∷ [])) 0
    ≡ record { answer = Because (FcsDiffers 3707047044 3723824260); start = 0; next = 72 }
unfolding computed
case_fcs_differs = refl

-- field 50 behind a tag, 46 octets of data
case_length_broken : explained (settings Off) 0 (entries_of nobody)
    ((251 ∷ []) ++ replicate 6 85 ++ (213 ∷ 2 ∷ 0 ∷ 0 ∷ 0 ∷ 0 ∷ 1 ∷ 2 ∷ 0 ∷ 0 ∷ 0 ∷ 0 ∷ 7 ∷ 129 ∷ 0 ∷ 0 ∷ 5 ∷ 0 ∷ 50 ∷ []) ++ replicate 46 0 ++ (129 ∷ 65 ∷ 114 ∷ 96 ∷ 253 ∷ []))
    ((1 ∷ []) ++ replicate 75 0 ++ (1 ∷ [])) 0
    ≡ record { answer = Because (LengthBroken 50 46); start = 0; next = 76 }
unfolding computed
case_length_broken = refl

-- another station
case_not_for_us : explained (settings Off) 0 (entries_of nobody)
    ((251 ∷ []) ++ replicate 6 85 ++ (213 ∷ 2 ∷ 0 ∷ 0 ∷ 0 ∷ 0 ∷ 153 ∷ 2 ∷ 0 ∷ 0 ∷ 0 ∷ 0 ∷ 7 ∷ 8 ∷ []) ++ replicate 47 0 ++ (168 ∷ 162 ∷ 14 ∷ 193 ∷ 253 ∷ []))
    ((1 ∷ []) ++ replicate 71 0 ++ (1 ∷ [])) 0
    ≡ record { answer = Because (NotForUs (record { 0 = 2 ∷ 0 ∷ 0 ∷ 0 ∷ 0 ∷ 153 ∷ [] })); start = 0; next = 72 }
unfolding computed
case_not_for_us = refl

-- a pause, taken
case_took_pause : explained (settings Pause) 0 (entries_of nobody)
    ((251 ∷ []) ++ replicate 6 85 ++ (213 ∷ 1 ∷ 128 ∷ 194 ∷ 0 ∷ 0 ∷ 1 ∷ 2 ∷ 0 ∷ 0 ∷ 0 ∷ 0 ∷ 7 ∷ 136 ∷ 8 ∷ 0 ∷ 1 ∷ 0 ∷ 3 ∷ []) ++ replicate 42 0 ++ (188 ∷ 226 ∷ 187 ∷ 218 ∷ 253 ∷ []))
    ((1 ∷ []) ++ replicate 71 0 ++ (1 ∷ [])) 0
    ≡ record { answer = Because (TookPause 1); start = 0; next = 72 }
unfolding computed
case_took_pause = refl

-- the same, dropped
case_dropped_control : explained (settings Off) 0 (entries_of nobody)
    ((251 ∷ []) ++ replicate 6 85 ++ (213 ∷ 1 ∷ 128 ∷ 194 ∷ 0 ∷ 0 ∷ 1 ∷ 2 ∷ 0 ∷ 0 ∷ 0 ∷ 0 ∷ 7 ∷ 136 ∷ 8 ∷ 0 ∷ 1 ∷ 0 ∷ 3 ∷ []) ++ replicate 42 0 ++ (188 ∷ 226 ∷ 187 ∷ 218 ∷ 253 ∷ []))
    ((1 ∷ []) ++ replicate 71 0 ++ (1 ∷ [])) 0
    ≡ record { answer = Because (DroppedControl 1); start = 0; next = 72 }
unfolding computed
case_dropped_control = refl

-- field 0: no octet handed out, and still its place
case_handed-none : explained (settings Off) 0 (entries_of nobody)
    ((7 ∷ 7 ∷ 251 ∷ []) ++ replicate 6 85 ++ (213 ∷ 2 ∷ 0 ∷ 0 ∷ 0 ∷ 0 ∷ 1 ∷ 2 ∷ 0 ∷ 0 ∷ 0 ∷ 0 ∷ 7 ∷ []) ++ replicate 48 0 ++ (208 ∷ 179 ∷ 230 ∷ 113 ∷ 253 ∷ []))
    ((1 ∷ 1 ∷ 1 ∷ []) ++ replicate 71 0 ++ (1 ∷ [])) 0
    ≡ record { answer = Because (Handed 24 0); start = 2; next = 74 }
unfolding computed
case_handed-none = refl

-- no ending symbol
case_open : explained (settings Off) 0 (entries_of nobody)
    ((251 ∷ []) ++ replicate 6 85 ++ (213 ∷ []))
    ((1 ∷ []) ++ replicate 7 0) 0
    ≡ record { answer = Open; start = 0; next = 0 }
unfolding computed
case_open = refl

-- no further Start
case_none : explained (settings Off) 0 (entries_of nobody)
    ((251 ∷ 253 ∷ []))
    ((1 ∷ 1 ∷ [])) 1
    ≡ record { answer = Why.Nothing; start = 2; next = 2 }
unfolding computed
case_none = refl
