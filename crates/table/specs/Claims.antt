-- What the claims of document 02, item 10, on the table speak of. The theorems are proofs/Claims.antt.
use Rattle.station.specs.declared.Refusal.{Refusal}
use Rattle.std.specs.Prelude.{ℕ, ◌≡◌, Bool, ◌⊎◌, List, [], ◌∷◌, map, length, set, Err, Ok, Result}
use Rattle.station.specs.declared.Address.{Address}
use Rattle.station.specs.Numbers.{refusal_number}
use Rattle.table.specs.declared.Entry.{Entry}
use Rattle.table.specs.Entries.{entries_of, unused, own_entries}
use Rattle.table.specs.Calls.{added, removed}

-- ---- one call

-- the number of a call's refusal, 0 where it was not refused
abbrev pub placed_refusal : Result ℕ Refusal → ℕ
placed_refusal (Err x) = refusal_number x
placed_refusal (Ok k) = 0

-- a number is one of those listed
abbrev pub OneOf : List ℕ → ℕ → Type 0
OneOf [] n = ⊥
OneOf (x ∷ xs) n = (n ≡ x) ⊎ OneOf xs n

-- the entries after a call, by its answer: one was taken or freed, or none changed. Likewise anything that is said of each entry
unfoldable pub after_call : {A : Type 0} → Result ℕ Refusal → List A → A → List A
after_call (Err x) es e = es
after_call (Ok k) es e = set es k e

-- ---- "its additions also on which entries the other holds"

-- those are the entries that are neither its own nor free
unfoldable pub frees : List Entry → List Bool
frees es = map unused es

-- two tables that are alike for a job: its own entries, and which the other holds
pub record Alike (job : ℕ) (t t' : List ℕ) : Type 0 where
  pub owns : own_entries job t ≡ own_entries job t'
  pub spare : frees (entries_of t) ≡ frees (entries_of t')

-- ---- any sequence of table calls

pub data Call : Type 0 where
  adds : ℕ → Address → Call
  removes : ℕ → Address → Call

unfoldable pub after : List ℕ → List Call → List ℕ
after t [] = t
after t (adds job a ∷ calls) = after (added job t a).table calls
after t (removes job a ∷ calls) = after (removed job t a).table calls

-- an address has six octets: what is true of every value of the type
abbrev pub Six : Address → Type 0
Six a = length a.0 ≡ 6

unfoldable pub AllSix : List Call → Type 0
AllSix [] = Unit {0}
AllSix (adds job a ∷ calls) = Six a × AllSix calls
AllSix (removes job a ∷ calls) = Six a × AllSix calls
