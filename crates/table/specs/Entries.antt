-- Document 02, item 10: "Two jobs, 0 and 1, read two captures with one address table of 16 entries in place of the four listed ones."
--
-- A table is 128 lent octets, eight for each entry: who holds it, the six octets of the address, and a spare one that is not looked at. So any octets are
-- some table. Every definition speaks of the list of entries, and what a reading sees of it is the list of the job's own: `mine`.
use Rattle.std.specs.Prelude.{ℕ, zero, suc, ◌+◌, ◌*◌, Bool, true, false, ◌||◌, cond, List, [], ◌∷◌, map, get_or, eqb, None, Option, Some}
use Rattle.line.specs.Limits.{table_entries}
use Rattle.line.specs.Octets.{same_octets}
use Rattle.station.specs.declared.Address.{Address}
use Rattle.table.specs.declared.Holder.{Holder}
use Rattle.table.specs.declared.Holder.TheVariants.{Nobody, JobZero, JobOne}
use Rattle.table.specs.declared.Entry.{Entry}

-- ---- the entries of a table

-- who holds an entry: octet 1 says job 0, octet 2 job 1, any other nobody
unfoldable pub holder_by : ℕ → Holder
holder_by octet = cond (eqb octet 1) JobZero (cond (eqb octet 2) JobOne Nobody)

-- the six octets from place `at` on
unfoldable pub address_at : List ℕ → ℕ → Address
address_at t at = record { 0 = get_or t at 0 ∷ get_or t (at + 1) 0 ∷ get_or t (at + 2) 0 ∷ get_or t (at + 3) 0 ∷ get_or t (at + 4) 0 ∷ get_or t (at + 5) 0 ∷ [] }

-- entry k, counted from 0
unfoldable pub entry_at : List ℕ → ℕ → Entry
entry_at t k = record { holder = holder_by (get_or t (8 * k) 0); address = address_at t (8 * k + 1) }

-- n entries from entry k on
unfoldable pub entries_from : ℕ → ℕ → List ℕ → List Entry
entries_from k zero t = []
entries_from k (suc n) t = entry_at t k ∷ entries_from (k + 1) n t

-- "16 entries"
unfoldable pub entries_of : List ℕ → List Entry
entries_of t = entries_from 0 table_entries t

-- ---- who holds an entry

abbrev pub is_held : ℕ → Holder → Bool
is_held job Nobody = false
is_held job JobZero = eqb job 0
is_held job JobOne = eqb job 1

abbrev pub is_free : Holder → Bool
is_free Nobody = true
is_free JobZero = false
is_free JobOne = false

-- "the lowest free entry": the first for which a test holds; `at` is the number of the list's first entry
unfoldable pub first_entry : (Entry → Bool) → ℕ → List Entry → Option ℕ
first_entry test at [] = None
first_entry test at (e ∷ es) = elim (test e) [ true ↦ Some at | false ↦ first_entry test (at + 1) es ]

abbrev pub unused : Entry → Bool
unused e = is_free e.holder

unfoldable pub free_entry : List Entry → Option ℕ
free_entry es = first_entry unused 0 es

-- ---- a job's "own entries", and "where the table put them"

-- an entry as a job sees it: its address, or nothing
unfoldable pub own_at : ℕ → Entry → Option Address
own_at job e = cond (is_held job e.holder) (Some e.address) None

-- at each entry the job's address, or nothing
unfoldable pub mine : ℕ → List Entry → List (Option Address)
mine job es = map (own_at job) es

abbrev pub own_entries : ℕ → List ℕ → List (Option Address)
own_entries job t = mine job (entries_of t)

-- how many entries it holds
unfoldable pub held : List (Option Address) → ℕ
held [] = 0
held (None ∷ ms) = held ms
held (Some a ∷ ms) = 1 + held ms

-- whether an entry lists the address `d` for the job
unfoldable pub names : List ℕ → Option Address → Bool
names d None = false
names d (Some a) = same_octets d a.0

-- whether the job lists `d`: "equal … a listed one, all six octets"
unfoldable pub among : List ℕ → List (Option Address) → Bool
among d [] = false
among d (m ∷ ms) = names d m || among d ms

-- the first entry at which the job lists `d`
unfoldable pub first_mine : List ℕ → ℕ → List (Option Address) → Option ℕ
first_mine d at [] = None
first_mine d at (m ∷ ms) = elim (names d m) [ true ↦ Some at | false ↦ first_mine d (at + 1) ms ]

-- whether a search found an entry
abbrev pub is_found : Option ℕ → Bool
is_found (Some k) = true
is_found None = false
