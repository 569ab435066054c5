-- Worked cases of the definitions, by computation: both sides of each band, small captures, and two tables, worked out apart from the definitions.
-- Assumes nothing.
use Rattle.std.specs.Prelude.{Err, Ok}
use Rattle.std.proofs.Common.{◌≡◌, ℕ, true, false, List, [], ◌∷◌, ◌++◌, replicate, refl}
use Rattle.station.specs.declared.Settings.{Settings}
use Rattle.station.specs.declared.Flow.{Flow}
use Rattle.station.specs.declared.Flow.TheVariants.{Off, Pause, Pfc}
use Rattle.station.specs.declared.Refusal.TheVariants.{BadSettings, BadJob, BadBuffers}
use Rattle.table.specs.Entries.{entries_of}
use Rattle.sizes.specs.declared.SizeTable.{SizeTable}
use Rattle.sizes.specs.Sizes.{band, fresh_sizes, adding, add_tables}
use Rattle.sizes.specs.Computed.{computed}

-- ---- both sides of each band

band_64 : band 64 ≡ 0
unfolding computed
band_64 = refl

band_65 : band 65 ≡ 1
unfolding computed
band_65 = refl

band_127 : band 127 ≡ 1
unfolding computed
band_127 = refl

band_128 : band 128 ≡ 2
unfolding computed
band_128 = refl

band_255 : band 255 ≡ 2
unfolding computed
band_255 = refl

band_256 : band 256 ≡ 3
unfolding computed
band_256 = refl

band_511 : band 511 ≡ 3
unfolding computed
band_511 = refl

band_512 : band 512 ≡ 4
unfolding computed
band_512 = refl

band_1023 : band 1023 ≡ 4
unfolding computed
band_1023 = refl

band_1024 : band 1024 ≡ 5
unfolding computed
band_1024 = refl

band_1518 : band 1518 ≡ 5
unfolding computed
band_1518 = refl

band_1519 : band 1519 ≡ 6
unfolding computed
band_1519 = refl

band_9618 : band 9618 ≡ 6
unfolding computed
band_9618 = refl

-- ---- captures

-- own 02-00-00-00-00-01, checking on, M as given
abbrev settings : ℕ → Flow → Settings
settings limit mode =
    record {
      own = record { 0 = 2 ∷ 0 ∷ 0 ∷ 0 ∷ 0 ∷ 1 ∷ [] };
      broadcast = true;
      promiscuous = false;
      checking = true;
      limit = limit;
      flow = mode;
      passing = false;
    }

-- a table that nobody holds an entry of
abbrev nobody : List ℕ
nobody = replicate 128 0

-- the table before: a count of frames and one of octets that roll over
abbrev before : SizeTable
before = record { frames = (18446744073709551615 ∷ 1 ∷ 0 ∷ 0 ∷ 0 ∷ 0 ∷ 3 ∷ []); octets = (18446744073709551615 ∷ 65 ∷ 0 ∷ 0 ∷ 0 ∷ 0 ∷ 5000 ∷ []) }

-- ---- frames on the line, each up to the last octet of its FCS

abbrev started : List ℕ
started = (251 ∷ []) ++ replicate 6 85 ++ (213 ∷ [])

-- to the own address, and to the reserved group
abbrev to_us : List ℕ
to_us = started ++ (2 ∷ 0 ∷ 0 ∷ 0 ∷ 0 ∷ 1 ∷ 2 ∷ 0 ∷ 0 ∷ 0 ∷ 0 ∷ 7 ∷ [])

abbrev to_group : List ℕ
to_group = started ++ (1 ∷ 128 ∷ 194 ∷ 0 ∷ 0 ∷ 1 ∷ 2 ∷ 0 ∷ 0 ∷ 0 ∷ 0 ∷ 7 ∷ 136 ∷ 8 ∷ [])

-- three octets, padded
abbrev padded : List ℕ
padded = to_us ++ (0 ∷ 3 ∷ 97 ∷ 98 ∷ 99 ∷ []) ++ replicate 43 0 ++ (132 ∷ 12 ∷ 245 ∷ [])

-- fifty octets behind a tag
abbrev tagged : List ℕ
tagged =
    to_us
    ++ (129 ∷ 0 ∷ 0 ∷ 5 ∷ 8 ∷ 0 ∷ [])
    ++ (0 ∷ 1 ∷ 2 ∷ 3 ∷ 4 ∷ 5 ∷ 6 ∷ 7 ∷ 8 ∷ 9 ∷ 10 ∷ 11 ∷ 12 ∷ 13 ∷ 14 ∷ 15 ∷ 16 ∷ 17 ∷ 18 ∷ 19 ∷ 20 ∷ 21 ∷ 22 ∷ 23 ∷ 24 ∷ [])
    ++ (25 ∷ 26 ∷ 27 ∷ 28 ∷ 29 ∷ 30 ∷ 31 ∷ 32 ∷ 33 ∷ 34 ∷ 35 ∷ 36 ∷ 37 ∷ 38 ∷ 39 ∷ 40 ∷ 41 ∷ 42 ∷ 43 ∷ 44 ∷ 45 ∷ 46 ∷ 47 ∷ 48 ∷ 49 ∷ [])
    ++ (248 ∷ 153 ∷ 92 ∷ [])

-- to another address
abbrev other : List ℕ
other = started ++ (2 ∷ 0 ∷ 0 ∷ 0 ∷ 0 ∷ 153 ∷ 2 ∷ 0 ∷ 0 ∷ 0 ∷ 0 ∷ 7 ∷ 8 ∷ []) ++ replicate 47 0 ++ (168 ∷ 162 ∷ 14 ∷ [])

abbrev pause : List ℕ
pause = to_group ++ (0 ∷ 1 ∷ 0 ∷ 3 ∷ []) ++ replicate 42 0 ++ (188 ∷ 226 ∷ 187 ∷ [])

abbrev pfc : List ℕ
pfc = to_group ++ (1 ∷ 1 ∷ 0 ∷ 255 ∷ []) ++ replicate 42 0 ++ (238 ∷ 177 ∷ 112 ∷ [])

-- 64 octets handed out, 72 with a tag, and a filtered one
case_added : adding before (settings 1518 Off) 0 (entries_of nobody)
    (padded ++ (221 ∷ 253 ∷ []) ++ tagged ++ (118 ∷ 253 ∷ []) ++ other ++ (193 ∷ 253 ∷ []))
    ((1 ∷ []) ++ replicate 71 0 ++ (1 ∷ 1 ∷ []) ++ replicate 79 0 ++ (1 ∷ 1 ∷ []) ++ replicate 71 0 ++ (1 ∷ []))
    ≡ record { answer = Ok tt; sizes = record { frames = (0 ∷ 2 ∷ 0 ∷ 0 ∷ 0 ∷ 0 ∷ 3 ∷ []); octets = (63 ∷ 137 ∷ 0 ∷ 0 ∷ 0 ∷ 0 ∷ 5000 ∷ []) } }
unfolding computed
case_added = refl

-- a pause frame that is taken, and a wrong FCS
case_pause : adding before (settings 1518 Pause) 0 (entries_of nobody)
    (pause ++ (218 ∷ 253 ∷ []) ++ padded ++ (0 ∷ 253 ∷ []))
    ((1 ∷ []) ++ replicate 71 0 ++ (1 ∷ 1 ∷ []) ++ replicate 71 0 ++ (1 ∷ []))
    ≡ record { answer = Ok tt; sizes = record { frames = (0 ∷ 1 ∷ 0 ∷ 0 ∷ 0 ∷ 0 ∷ 3 ∷ []); octets = (63 ∷ 65 ∷ 0 ∷ 0 ∷ 0 ∷ 0 ∷ 5000 ∷ []) } }
unfolding computed
case_pause = refl

-- a PFC frame that is taken, and a pause frame that is dropped
case_pfc : adding before (settings 1518 Pfc) 0 (entries_of nobody)
    (pfc ++ (135 ∷ 253 ∷ []) ++ pause ++ (218 ∷ 253 ∷ []))
    ((1 ∷ []) ++ replicate 71 0 ++ (1 ∷ 1 ∷ []) ++ replicate 71 0 ++ (1 ∷ []))
    ≡ record { answer = Ok tt; sizes = record { frames = (1 ∷ 1 ∷ 0 ∷ 0 ∷ 0 ∷ 0 ∷ 3 ∷ []); octets = (127 ∷ 65 ∷ 0 ∷ 0 ∷ 0 ∷ 0 ∷ 5000 ∷ []) } }
unfolding computed
case_pfc = refl

-- a frame, a cut one, and one whose run is open: what was counted is added
case_open : adding before (settings 1518 Off) 1 (entries_of nobody)
    (padded ++ (221 ∷ 253 ∷ []) ++ padded ++ (221 ∷ 254 ∷ []) ++ padded ++ (221 ∷ []))
    ((1 ∷ []) ++ replicate 71 0 ++ (1 ∷ 1 ∷ []) ++ replicate 71 0 ++ (1 ∷ 1 ∷ []) ++ replicate 71 0)
    ≡ record { answer = Ok tt; sizes = record { frames = (0 ∷ 1 ∷ 0 ∷ 0 ∷ 0 ∷ 0 ∷ 3 ∷ []); octets = (63 ∷ 65 ∷ 0 ∷ 0 ∷ 0 ∷ 0 ∷ 5000 ∷ []) } }
unfolding computed
case_open = refl

-- refusal 1
case_refused_1 : adding before (settings 1517 Off) 2 (entries_of nobody)
    (padded ++ (221 ∷ 253 ∷ []))
    ((1 ∷ []) ++ replicate 71 0 ++ (1 ∷ []))
    ≡ record { answer = Err BadSettings; sizes = before }
unfolding computed
case_refused_1 = refl

-- refusal 14
case_refused_14 : adding before (settings 1518 Off) 2 (entries_of nobody) (0 ∷ 0 ∷ []) (0 ∷ [])
    ≡ record { answer = Err BadJob; sizes = before }
unfolding computed
case_refused_14 = refl

-- refusal 2
case_refused_2 : adding before (settings 1518 Off) 0 (entries_of nobody) (0 ∷ 0 ∷ []) (0 ∷ [])
    ≡ record { answer = Err BadBuffers; sizes = before }
unfolding computed
case_refused_2 = refl

-- ---- two tables

case_tables : add_tables before (record { frames = (1 ∷ 2 ∷ 3 ∷ 4 ∷ 5 ∷ 6 ∷ 7 ∷ []); octets = (10 ∷ 20 ∷ 30 ∷ 40 ∷ 50 ∷ 60 ∷ 70 ∷ []) })
    ≡ record { frames = (0 ∷ 3 ∷ 3 ∷ 4 ∷ 5 ∷ 6 ∷ 10 ∷ []); octets = (9 ∷ 85 ∷ 30 ∷ 40 ∷ 50 ∷ 60 ∷ 5070 ∷ []) }
unfolding computed
case_tables = refl

case_nothing : add_tables fresh_sizes before ≡ before
unfolding computed
case_nothing = refl
