-- Laws of a table's entries and of a job's own: one entry more, what stands at a place, and where a search ends. Assumes nothing.
use Rattle.std.specs.Prelude.{None, Option, Some}
use Rattle.std.specs.Option.{is_some}
use Rattle.std.specs.Int.{from_bool}
use Prim.Native.Nat.{ℕ, zero, suc, ◌+◌, ◌*◌, ◌≤◌, ◌<◌}
use native.Mathlib.Omega.{arith}
use native.Mathlib.Nat.{zero-add, not-suc-le-zero, le_of_suc-le-suc}
use native.Mathlib.Numerals.{add-one}
use mathlib.Core.Path.{◌≡◌, refl, sym, ap, ap₂, ◌∙◌, subst}
use mathlib.Core.Bool.{Bool, true, false, not, ◌||◌}
use mathlib.Core.List.{List, [], ◌∷◌}
use lib.ListN.{length, get_or, drop, replicate, length-map, get_or-map, drop_of_length-le}
use lib.Seq.{drop-cons}
use lib.Dec.{eqb}
use borrow.Author.Tests.{eqb-true, ne_eqb}
use Rattle.line.specs.Limits.{table_entries}
use Rattle.line.specs.Octets.{same_octets}
use Rattle.line.proofs.Symbols.{by_test}
use Rattle.station.specs.declared.Address.{Address}
use Rattle.fields.specs.Fields.{destination}
use Rattle.table.specs.declared.Holder.{Holder}
use Rattle.table.specs.declared.Holder.TheVariants.{Nobody, JobZero, JobOne}
use Rattle.table.specs.declared.Entry.{Entry}
use Rattle.table.specs.Entries.{holder_by, address_at, entry_at, entries_from, entries_of, is_held, unused, first_entry, own_at, mine, own_entries, held, names, among, first_mine, is_found}
use Rattle.table.specs.Tests.{again, twice, overfull, bad_table}
use Rattle.table.specs.Steps.{one_if}

-- ---- the entries of a table

length_from : (k n : ℕ) (t : List ℕ) → length (entries_from k n t) ≡ n
unfolding entries_from
length_from k zero t = refl
length_from k (suc n) t = ap suc (length_from (k + 1) n t)

from_at : (k n i : ℕ) (t : List ℕ) (z : Entry) → i < n → get_or (entries_from k n t) i z ≡ entry_at t (k + i)
unfolding entries_from
from_at k zero i t z h = absurd (not-suc-le-zero h)
from_at k (suc n) zero t z h = let e : k ≡ k + 0 = omega arith in ap (entry_at t) e
from_at k (suc n) (suc i) t z h = let e : k + 1 + i ≡ k + suc i = omega arith in from_at (k + 1) n i t z (le_of_suc-le-suc h) ∙ ap (entry_at t) e

pub entries_sixteen : (t : List ℕ) → length (entries_of t) ≡ table_entries
unfolding entries_of
entries_sixteen t = length_from 0 table_entries t

pub entry_is : (t : List ℕ) (k : ℕ) (z : Entry) → k < table_entries → get_or (entries_of t) k z ≡ entry_at t k
unfolding entries_of
entry_is t k z h = from_at 0 table_entries k t z h ∙ ap (entry_at t) (zero-add k)

pub length-mine : (job : ℕ) (es : List Entry) → length (mine job es) ≡ length es
unfolding mine
length-mine job es = length-map es (own_at job)

pub sixteen : (job : ℕ) (t : List ℕ) → length (own_entries job t) ≡ table_entries
sixteen job t = length-mine job (entries_of t) ∙ entries_sixteen t

-- what a job has at entry k
pub own_is : (job : ℕ) (t : List ℕ) (k : ℕ) → k < table_entries → get_or (own_entries job t) k None ≡ own_at job (entry_at t k)
unfolding mine own_at
own_is job t k h =
    let z : Entry = record { holder = Nobody; address = record { 0 = [] } } in
    get_or-map (own_at job) (entries_of t) k z ∙ ap (own_at job) (entry_is t k z h)

pub own_held : (job : ℕ) (e : Entry) → is_held job e.holder ≡ true → own_at job e ≡ Some e.address
unfolding own_at
own_held job e h = rw h

pub own-not : (job : ℕ) (e : Entry) → is_held job e.holder ≡ false → own_at job e ≡ None
unfolding own_at
own-not job e h = rw h

-- who holds an entry, by its octet

octet-none : (job : ℕ) (h : Holder) → 1 < job → is_held job h ≡ false
octet-none job Nobody above = refl
octet-none job JobZero above = ne_eqb job 0 (λ e. omega arith)
octet-none job JobOne above = ne_eqb job 1 (λ e. omega arith)

octet-zero : (o : ℕ) → is_held 0 (holder_by o) ≡ eqb o 1
unfolding holder_by
octet-zero o = by_test (eqb o 1) (λ e. rw e) (λ e. by_test (eqb o 2) (λ f. rw (e, f)) (λ f. rw (e, f)))

octet-one : (o : ℕ) → is_held 1 (holder_by o) ≡ eqb o 2
unfolding holder_by
octet-one o =
    by_test (eqb o 1)
    (λ e. let z : o ≡ 1 = eqb-true o 1 e in rw e (sym (ne_eqb o 2 (λ f. omega arith))))
    (λ e. by_test (eqb o 2) (λ f. rw (e, f)) (λ f. rw (e, f)))

module _ (t : List ℕ) (k : ℕ) where
  pub holds-none : (job : ℕ) → 1 < job → is_held job (entry_at t k).holder ≡ false
  holds-none job above = octet-none job (entry_at t k).holder above

  pub holds-octet : (job : ℕ) → job ≤ 1 → is_held job (entry_at t k).holder ≡ eqb (get_or t (8 * k) 0) (job + 1)
  unfolding entry_at
  holds-octet zero h = octet-zero (get_or t (8 * k) 0)
  holds-octet (suc zero) h = octet-one (get_or t (8 * k) 0)
  holds-octet (suc (suc job)) h = absurd (omega arith)

-- ---- whether a job lists an address at an entry

pub names-held : (job : ℕ) (d : List ℕ) (e : Entry) → is_held job e.holder ≡ true → names d (own_at job e) ≡ same_octets d e.address.0
unfolding names
names-held job d e h = ap (names d) (own_held job e h)

pub names-not : (job : ℕ) (d : List ℕ) (e : Entry) → is_held job e.holder ≡ false → names d (own_at job e) ≡ false
unfolding names
names-not job d e h = ap (names d) (own-not job e h)

module _ (d : List ℕ) (at : ℕ) (m : Option Address) (ms : List (Option Address)) where
  pub mine-here : names d m ≡ true → first_mine d at (m ∷ ms) ≡ Some at
  unfolding first_mine
  mine-here h = rw (h, first_mine)

  pub mine-later : names d m ≡ false → first_mine d at (m ∷ ms) ≡ first_mine d (at + 1) ms
  unfolding first_mine
  mine-later h = rw (h, first_mine)

-- a search for an address finds it exactly if it is among the job's own
pub found_among : (d : List ℕ) (at : ℕ) (ms : List (Option Address)) → is_found (first_mine d at ms) ≡ among d ms
unfolding first_mine among
found_among d at [] = refl
found_among d at (m ∷ ms) =
    by_test (names d m)
    (λ h. ap is_found (mine-here d at m ms h) ∙ sym (ap (λ (b : Bool). b || among d ms) h))
    (λ h. ap is_found (mine-later d at m ms h) ∙ found_among d (at + 1) ms ∙ sym (ap (λ (b : Bool). b || among d ms) h))

pub never : {P : Type 0} (i : ℕ) → ◌≡◌ {A = Option ℕ} None (Some i) → P
never i h = cc

-- the library's words for it
pub found_some : (o : Option ℕ) → is_some o ≡ is_found o
found_some (Some i) = refl
found_some None = refl

pub found_none : (o : Option ℕ) (b : Bool) → is_some o ≡ not b → not (is_found o) ≡ b
found_none (Some i) true h = sym h
found_none (Some i) false h = refl
found_none None true h = refl
found_none None false h = sym h

-- where it finds it
pub mine_range : (d : List ℕ) (at : ℕ) (ms : List (Option Address)) (i : ℕ) → first_mine d at ms ≡ Some i → (at ≤ i) × (i < at + length ms)
unfolding first_mine
mine_range d at [] i h = never i h
mine_range d at (m ∷ ms) i h =
    by_test (names d m)
    (λ t. let z : Some at ≡ Some i = sym (mine-here d at m ms t) ∙ h in let q : at ≡ i = cc in (omega arith, omega arith))
    (λ t. let ih = mine_range d (at + 1) ms i (sym (mine-later d at m ms t) ∙ h) in (omega arith, omega arith))

-- the place that a search gives is the one that it found
pub at-is : (k i n : ℕ) → ◌≡◌ {A = Option ℕ} (Some k) (Some i) → k < n → i < n
at-is k i n h l = let e : k ≡ i = cc in subst (λ (j : ℕ). j < n) e l

-- ---- a job's own from entry k of a table on
module _ (job : ℕ) (t : List ℕ) (k : ℕ) (h : k < table_entries) where
  abbrev own : List (Option Address)
  own = own_entries job t

  pub own-from : drop k own ≡ own_at job (entry_at t k) ∷ drop (k + 1) own
  own-from =
      drop-cons own k None (omega (arith, sixteen job t))
      ∙ ap₂ (λ (m : Option Address) (n : ℕ). m ∷ drop n own) (own_is job t k h) (sym (add-one k))

  pub search_here : (d : List ℕ) → names d (own_at job (entry_at t k)) ≡ true → first_mine d k (drop k own) ≡ Some k
  search_here d e = ap (first_mine d k) own-from ∙ mine-here d k (own_at job (entry_at t k)) (drop (k + 1) own) e

  pub search_next : (d : List ℕ) → names d (own_at job (entry_at t k)) ≡ false → first_mine d (k + 1) (drop (k + 1) own) ≡ first_mine d k (drop k own)
  search_next d e = sym (ap (first_mine d k) own-from ∙ mine-later d k (own_at job (entry_at t k)) (drop (k + 1) own) e)

pub own-end : (job : ℕ) (t : List ℕ) (k : ℕ) → table_entries ≤ k → drop k (own_entries job t) ≡ []
own-end job t k h = drop_of_length-le (own_entries job t) {i = k} (omega (arith, sixteen job t))

pub search_end : (job : ℕ) (t : List ℕ) (k : ℕ) (d : List ℕ) → table_entries ≤ k → first_mine d k (drop k (own_entries job t)) ≡ None
unfolding first_mine
search_end job t k d h = ap (first_mine d k) (own-end job t k h)

-- an address of the table is six octets, all of them a destination
pub six_to : (t : List ℕ) (at : ℕ) → destination (address_at t at).0 ≡ (address_at t at).0
unfolding destination address_at
six_to t at = refl

-- ---- how many entries a job holds

pub held_cons : (job : ℕ) (e : Entry) (ms : List (Option Address)) → held (own_at job e ∷ ms) ≡ one_if (is_held job e.holder) + held ms
unfolding held
held_cons job e ms =
    by_test (is_held job e.holder)
    (λ h. ap (λ (m : Option Address). held (m ∷ ms)) (own_held job e h) ∙ sym (ap (λ (b : Bool). one_if b + held ms) h))
    (λ h. ap (λ (m : Option Address). held (m ∷ ms)) (own-not job e h) ∙ sym (ap (λ (b : Bool). one_if b + held ms) h ∙ zero-add (held ms)))

-- the library's word for it
one_from : (b : Bool) → from_bool b ≡ one_if b
one_from true = refl
one_from false = refl

-- one turn of the count: b says whether entry k is the job's
pub held-step : (job : ℕ) (t : List ℕ) (k n x total : ℕ) (b : Bool) → k < table_entries → b ≡ is_held job (entry_at t k).holder → x ≡ from_bool b
    → n + held (drop k (own_entries job t)) ≡ total → (x ≤ 1) × (n + x + held (drop (k + 1) (own_entries job t)) ≡ total)
held-step job t k n x total b h e o s =
    let one : x ≡ one_if (is_held job (entry_at t k).holder) = o ∙ one_from b ∙ ap one_if e in
    let more = ap held (own-from job t k h) ∙ held_cons job (entry_at t k) (drop (k + 1) (own_entries job t)) in
    (by_test b (λ q. omega (arith, o ∙ ap from_bool q)) (λ q. omega (arith, o ∙ ap from_bool q)), omega arith)

pub held-end : (job : ℕ) (t : List ℕ) (k : ℕ) → table_entries ≤ k → held (drop k (own_entries job t)) ≡ 0
unfolding held
held-end job t k h = ap held (own-end job t k h)

-- ---- whether a job has an address twice

pub again-held : (job : ℕ) (e : Entry) (ms : List (Option Address)) → is_held job e.holder ≡ true → again (own_at job e) ms ≡ among e.address.0 ms
unfolding again
again-held job e ms h = ap (λ (m : Option Address). again m ms) (own_held job e h)

pub again-not : (job : ℕ) (e : Entry) (ms : List (Option Address)) → is_held job e.holder ≡ false → again (own_at job e) ms ≡ false
unfolding again
again-not job e ms h = ap (λ (m : Option Address). again m ms) (own-not job e h)

module _ (job : ℕ) (t : List ℕ) (k : ℕ) (h : k < table_entries) where
  abbrev here-again : Bool
  here-again = again (own_at job (entry_at t k)) (drop (k + 1) (own_entries job t))

  twice-from : twice (drop k (own_entries job t)) ≡ (here-again || twice (drop (k + 1) (own_entries job t)))
  unfolding twice
  twice-from = ap twice (own-from job t k h)

  pub twice-here : here-again ≡ true → twice (drop k (own_entries job t)) ≡ true
  twice-here e = twice-from ∙ ap (λ (b : Bool). b || twice (drop (k + 1) (own_entries job t))) e

  pub twice-later : here-again ≡ false → twice (drop (k + 1) (own_entries job t)) ≡ twice (drop k (own_entries job t))
  twice-later e = sym (twice-from ∙ ap (λ (b : Bool). b || twice (drop (k + 1) (own_entries job t))) e)

pub twice-end : (job : ℕ) (t : List ℕ) (k : ℕ) → table_entries ≤ k → twice (drop k (own_entries job t)) ≡ false
unfolding twice
twice-end job t k h = ap twice (own-end job t k h)

-- ---- a table in which every holder's octet is 0: nobody holds an entry

zero_free : (job : ℕ) (t : List ℕ) (k : ℕ) → get_or t (8 * k) 0 ≡ 0 → own_at job (entry_at t k) ≡ None
unfolding entry_at holder_by own_at
zero_free job t k h = rw h

blank_from : (job k n : ℕ) (t : List ℕ) → ((i : ℕ) → k ≤ i → i < k + n → get_or t (8 * i) 0 ≡ 0) → mine job (entries_from k n t) ≡ replicate n None
unfolding mine entries_from
blank_from job k zero t h = refl
blank_from job k (suc n) t h =
    ap₂ (λ (m : Option Address) (ms : List (Option Address)). m ∷ ms)
    (zero_free job t k (h k (omega arith) (omega arith)))
    (blank_from job (k + 1) n t (λ i a b. h i (omega arith) (omega arith)))

blank_fits : overfull (replicate table_entries None) ≡ false
unfolding overfull held twice again
blank_fits = refl

pub blank_good : (t : List ℕ) → ((k : ℕ) → k < table_entries → get_or t (8 * k) 0 ≡ 0) → bad_table (entries_of t) ≡ false
unfolding bad_table entries_of
blank_good t h =
    let free : (job : ℕ) → overfull (mine job (entries_from 0 table_entries t)) ≡ false =
    λ job. ap overfull (blank_from job 0 table_entries t (λ i a b. h i b)) ∙ blank_fits in
    ap₂ ◌||◌ (free 0) (free 1)

-- ---- free entries

module _ (test : Entry → Bool) (at : ℕ) (e : Entry) (es : List Entry) where
  pub entry_here : test e ≡ true → first_entry test at (e ∷ es) ≡ Some at
  unfolding first_entry
  entry_here h = rw (h, first_entry)

  pub entry_later : test e ≡ false → first_entry test at (e ∷ es) ≡ first_entry test (at + 1) es
  unfolding first_entry
  entry_later h = rw (h, first_entry)

-- from entry k of a table on
module _ (t : List ℕ) (k : ℕ) (h : k < table_entries) where
  entries_from_lem : drop k (entries_of t) ≡ entry_at t k ∷ drop (k + 1) (entries_of t)
  entries_from_lem =
      let z : Entry = record { holder = Nobody; address = record { 0 = [] } } in
      drop-cons (entries_of t) k z (omega (arith, entries_sixteen t))
      ∙ ap₂ (λ (e : Entry) (n : ℕ). e ∷ drop n (entries_of t)) (entry_is t k z h) (sym (add-one k))

  pub free_here : unused (entry_at t k) ≡ true → first_entry unused k (drop k (entries_of t)) ≡ Some k
  free_here e = ap (first_entry unused k) entries_from_lem ∙ entry_here unused k (entry_at t k) (drop (k + 1) (entries_of t)) e

  pub free_next : unused (entry_at t k) ≡ false → first_entry unused (k + 1) (drop (k + 1) (entries_of t)) ≡ first_entry unused k (drop k (entries_of t))
  free_next e = sym (ap (first_entry unused k) entries_from_lem ∙ entry_later unused k (entry_at t k) (drop (k + 1) (entries_of t)) e)

pub free_end : (t : List ℕ) (k : ℕ) → table_entries ≤ k → first_entry unused k (drop k (entries_of t)) ≡ None
unfolding first_entry
free_end t k h = ap (first_entry unused k) (drop_of_length-le (entries_of t) {i = k} (omega (arith, entries_sixteen t)))
