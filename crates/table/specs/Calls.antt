-- Document 02, item 10: the table calls.
use Rattle.station.specs.Numbers.{Checked}
use Rattle.station.specs.declared.Refusal.{Refusal}
use Rattle.std.specs.Prelude.{ℕ, ◌*◌, Bool, not, cond, List, [], ◌∷◌, ◌++◌, replicate, eqb, leb, Err, None, Ok, Option, Result, Some}
use Rattle.std.proofs.lemmas.List.Edits.{sets}
use Rattle.line.specs.Limits.{most_held}
use Rattle.line.specs.Table.{Table, ◌⇒◌, ◌∣◌, otherwise, first}
use Rattle.station.specs.declared.Address.{Address}
use Rattle.station.specs.declared.Refusal.TheVariants.{BadJob, HoldsTwelve, AllInUse, AlreadyListed, NotListed, BadTable}
use Rattle.table.specs.declared.Holder.{Holder}
use Rattle.table.specs.declared.Holder.TheVariants.{Nobody, JobZero, JobOne}
use Rattle.table.specs.declared.Entry.{Entry}
use Rattle.table.specs.Entries.{entries_of, free_entry, mine, own_entries, held, among, first_mine, is_found}
use Rattle.table.specs.Tests.{bad_job, bad_table}

-- ---- entries as they are written

-- a table that nobody holds an entry of
unfoldable pub empty_table : List ℕ
empty_table = replicate 128 0

-- an entry that nobody holds, and one that a job takes
unfoldable pub freed : Entry
freed = record { holder = Nobody; address = record { 0 = replicate 6 0 } }

unfoldable pub taken : ℕ → Address → Entry
taken job a = record { holder = cond (eqb job 0) JobZero JobOne; address = a }

-- the octet that says who holds an entry
abbrev pub holder_octet : Holder → ℕ
holder_octet Nobody = 0
holder_octet JobZero = 1
holder_octet JobOne = 2

-- the eight octets of an entry, the spare one 0
unfoldable pub entry_octets : Entry → List ℕ
entry_octets e = holder_octet e.holder ∷ (e.address.0 ++ (0 ∷ []))

-- an entry in its place: its eight octets stored one after the other, and every other octet stays
unfoldable pub put_entry : List ℕ → ℕ → Entry → List ℕ
put_entry t k e = sets t (8 * k) (entry_octets e)

-- ---- refusals

-- 17: "already listed by this job"
unfoldable pub is_listed : Address → List (Option Address) → Bool
is_listed a ms = among a.0 ms

-- "Refusals: 14 …; 20 …; then lowest first 15 holds 12; 16 all 16 in use; 17 already listed by this job …. When adding, 17 comes before 15 and 16."
unfoldable pub add_refusals : ℕ → List Entry → Address → Table Checked
add_refusals job es a =
    bad_job job ⇒ Err BadJob
    ∣ bad_table es ⇒ Err BadTable
    ∣ is_listed a (mine job es) ⇒ Err AlreadyListed
    ∣ leb most_held (held (mine job es)) ⇒ Err HoldsTwelve
    ∣ not (is_found (free_entry es)) ⇒ Err AllInUse
    ∣ otherwise (Ok tt)

-- "18 not listed by this job"
unfoldable pub remove_refusals : ℕ → List Entry → Address → Table Checked
remove_refusals job es a =
    bad_job job ⇒ Err BadJob
    ∣ bad_table es ⇒ Err BadTable
    ∣ not (is_found (first_mine a.0 0 (mine job es))) ⇒ Err NotListed
    ∣ otherwise (Ok tt)

-- ---- the calls

-- what a table call answers, and the table after it
pub record Change : Type 0 where
  pub answer : Result ℕ Refusal
  pub table : List ℕ

abbrev pub change : Result ℕ Refusal → List ℕ → Change
change answer table = record { answer = answer; table = table }

-- an entry in the place that was found; the refusals have seen to it that there is one
unfoldable pub put_at : Option ℕ → List ℕ → Entry → Change
put_at (Some k) t e = change (Ok k) (put_entry t k e)
put_at None t e = change (Err AllInUse) t

-- a refused call leaves every octet
unfoldable pub changed : Checked → Option ℕ → List ℕ → Entry → Change
changed (Err x) found t e = change (Err x) t
changed (Ok _) found t e = put_at found t e

-- "An addition takes the lowest free entry, so freed ones are used again."
unfoldable pub added : ℕ → List ℕ → Address → Change
added job t a = changed (first (add_refusals job (entries_of t) a)) (free_entry (entries_of t)) t (taken job a)

-- a removal frees the entry by which the job lists the address
unfoldable pub removed : ℕ → List ℕ → Address → Change
removed job t a = changed (first (remove_refusals job (entries_of t) a)) (first_mine a.0 0 (own_entries job t)) t freed
