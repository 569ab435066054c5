-- Worked cases of the definitions, by computation. Assumes nothing.
use Prim.Native.Nat.{ℕ}
use mathlib.Core.Path.{◌≡◌, refl}
use mathlib.Core.List.{List, [], ◌∷◌, ◌++◌}
use lib.ListN.{replicate}
use Rattle.std.specs.Prelude.{Ok, Err}
use Rattle.reading_log.specs.declared.Record.{Record}
use Rattle.reading_log.specs.declared.LogRefusal.TheVariants.{BadLog, LogFull, NotUsed}
use Rattle.reading_log.specs.Log.{octets_of_record, record_of, extent, logging, appending, record_read, used_records}
use Rattle.reading_log.specs.Room.{deleting, numbered, deleting_all, compacting}
use Rattle.reading_log.specs.Readers.{next_step}
use Rattle.reading_log.specs.Computed.{computed}

-- a record whose octets are 1 to 16, the same deleted, one of outcome 0, an unused one with octets that are not zero, and another used one
abbrev counting : Record
counting = record { place = 0x04030201; outcome = 5; way = 6; handed = 0x0807; status = 0x100F0E0D0C0B0A09 }

abbrev octets : List ℕ
octets = 1 ∷ 2 ∷ 3 ∷ 4 ∷ 5 ∷ 6 ∷ 7 ∷ 8 ∷ 9 ∷ 10 ∷ 11 ∷ 12 ∷ 13 ∷ 14 ∷ 15 ∷ 16 ∷ []

abbrev deleted : List ℕ
deleted = 1 ∷ 2 ∷ 3 ∷ 4 ∷ 0 ∷ 6 ∷ 7 ∷ 8 ∷ 9 ∷ 10 ∷ 11 ∷ 12 ∷ 13 ∷ 14 ∷ 15 ∷ 16 ∷ []

abbrev nothing : Record
nothing = record { place = 7; outcome = 0; way = 0; handed = 0; status = 0 }

abbrev unused : List ℕ
unused = replicate 4 9 ++ (0 ∷ replicate 11 9)

abbrev other : List ℕ
other = replicate 16 255

abbrev zeros : List ℕ
zeros = replicate 16 0

stands : (octets_of_record counting ≡ octets) × (record_of octets ≡ counting)
unfolding computed
stands = (refl, refl)

-- zeros; behind the last used one and in no hole before it; the last slot; no room
appends : (appending (zeros ++ zeros) counting ≡ logging (Ok tt) (octets ++ zeros))
    × (appending (other ++ unused ++ other ++ unused) counting ≡ logging (Ok tt) (other ++ unused ++ other ++ octets))
    × (appending (unused ++ unused) counting ≡ logging (Ok tt) (octets ++ unused))
    × (appending (other ++ unused) counting ≡ logging (Ok tt) (other ++ octets))
    × (appending (other ++ octets) counting ≡ logging (Err LogFull) (other ++ octets))
    × (appending [] counting ≡ logging (Err LogFull) [])
unfolding computed
appends = (refl, refl, refl, refl, refl, refl)

-- the last slot is used: compacted first
makes_room : (appending (unused ++ other) counting ≡ logging (Ok tt) (other ++ octets))
    × (appending (other ++ unused ++ unused ++ other) counting ≡ logging (Ok tt) (other ++ other ++ octets ++ zeros))
    × (appending (unused ++ other) nothing ≡ logging (Ok tt) (unused ++ other))
unfolding computed
makes_room = (refl, refl, refl)

-- a length of 17, full and not; outcome 0
refuses : (appending (0 ∷ other) counting ≡ logging (Err BadLog) (0 ∷ other))
    × (appending (0 ∷ other) nothing ≡ logging (Err BadLog) (0 ∷ other))
    × (appending other nothing ≡ logging (Ok tt) other)
    × (appending unused nothing ≡ logging (Ok tt) unused)
unfolding computed
refuses = (refl, refl, refl, refl)

-- a record behind an unused one is read; an unused one, and one behind the end, are not
reads : (record_read (unused ++ octets) 1 ≡ Ok counting)
    × (record_read (unused ++ octets) 0 ≡ Err NotUsed)
    × (record_read (unused ++ octets) 2 ≡ Err NotUsed)
    × (record_read (0 ∷ octets) 0 ≡ Err BadLog)
unfolding computed
reads = (refl, refl, refl, refl)

-- a reader skips what is not used, and stays where nothing follows
hands_out : (next_step (other ++ octets) 1 ≡ record { read = Ok counting; at = 2 })
    × (next_step (other ++ unused ++ unused ++ octets) 1 ≡ record { read = Ok counting; at = 4 })
    × (next_step (other ++ unused) 1 ≡ record { read = Err NotUsed; at = 1 })
    × (next_step (other ++ unused) 7 ≡ record { read = Err NotUsed; at = 7 })
    × (next_step (0 ∷ octets) 0 ≡ record { read = Err BadLog; at = 0 })
unfolding computed
hands_out = (refl, refl, refl, refl, refl)

-- the outcome octet alone becomes 0
deletes : (deleting (other ++ octets) 1 ≡ logging (Ok tt) (other ++ deleted))
    × (deleting (other ++ deleted) 1 ≡ logging (Err NotUsed) (other ++ deleted))
    × (deleting (other ++ octets) 2 ≡ logging (Err NotUsed) (other ++ octets))
    × (deleting (0 ∷ octets) 0 ≡ logging (Err BadLog) (0 ∷ octets))
unfolding computed
deletes = (refl, refl, refl, refl)

-- every record of outcome 5, none of outcome 0, none of 7
deletes_all : (deleting_all (octets ++ other ++ unused ++ octets) 5 ≡ numbered (Ok 2) (deleted ++ other ++ unused ++ deleted))
    × (deleting_all (octets ++ other ++ unused) 0 ≡ numbered (Ok 0) (octets ++ other ++ unused))
    × (deleting_all (octets ++ other) 7 ≡ numbered (Ok 0) (octets ++ other))
    × (deleting_all (0 ∷ octets) 5 ≡ numbered (Err BadLog) (0 ∷ octets))
unfolding computed
deletes_all = (refl, refl, refl, refl)

-- in their order, and zero octets behind them
compacts : (compacting (unused ++ other ++ deleted ++ octets) ≡ logging (Ok tt) (other ++ octets ++ zeros ++ zeros))
    × (compacting (octets ++ other) ≡ logging (Ok tt) (octets ++ other))
    × (compacting (unused ++ unused) ≡ logging (Ok tt) (zeros ++ zeros))
    × (compacting [] ≡ logging (Ok tt) [])
    × (compacting (0 ∷ unused) ≡ logging (Err BadLog) (0 ∷ unused))
unfolding computed
compacts = (refl, refl, refl, refl, refl)

-- holes or not; and how many up to the last used one
counts : (used_records (other ++ unused ++ octets ++ unused) ≡ Ok 2)
    × (used_records (other ++ octets) ≡ Ok 2)
    × (used_records (0 ∷ other) ≡ Err BadLog)
    × (extent (other ++ unused ++ octets ++ unused) ≡ 3)
    × (extent (unused ++ unused) ≡ 0)
unfolding computed
counts = (refl, refl, refl, refl, refl)
