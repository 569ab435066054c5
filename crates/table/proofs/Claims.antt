-- Document 02, item 10, its claims on the table. Assumes nothing.
--   `added-entries`, `removed-entries`     of the list of entries a call sets one, or none
--   readings: `own-accepts`, `own-way`     a job's own entries alone decide what it accepts, and their places the number
--   `others-add`, `others_remove`          and no call of the other job changes them
--   additions: `own-adds`                  these, and which entries the other holds, decide an addition, while no 20 is given
--   `always_four`                          a job that holds fewer than 4 gets the address that it asks for
--   `takes_lowest`, `freed-again`          an addition takes the lowest free entry, so freed ones are used again
--   `both_list`                            both may list the same address
--   `adds_stay_good`, `removes_stay_good`, `never_twenty`    from an empty table on, no table call makes one that gives 20
--   `add-gives`, `remove_gives`            "Table calls give only 14 to 18 and 20."
-- That a table has 128 octets and an address six is true of every value of their types.
use Rattle.std.proofs.lemmas.List.{map-set}
use Rattle.std.specs.Prelude.{Err, None, Ok, Option, Result, Some}
use Rattle.station.specs.Numbers.{Checked}
use Prim.Native.Nat.{ℕ, zero, suc, ◌+◌, ◌-◌, ◌*◌, ◌≤◌, ◌<◌}
use native.Mathlib.Omega.{arith}
use native.Mathlib.Nat.{not-suc-le-zero, le_of_suc-le-suc}
use mathlib.Core.Path.{◌≡◌, refl, sym, ap, ap₂, ◌∙◌, subst}
use mathlib.Core.Bool.{Bool, true, false, not, ◌||◌, false≢true}
use mathlib.Core.Logic.{inl, inr}
use mathlib.Core.List.{List, [], ◌∷◌, map}
use lib.ListN.{length, get_or, set, replicate, length-replicate, get_or-replicate, get_or-map}
use lib.Seq.{set-get_or, get_or-set_same}
use lib.Dec.{eqb, ltb, leb}
use borrow.Author.Tests.{ltb-true, ltb-false, lt-leb, leb-false, eqb-true, eqb-false, ne_eqb}
use Rattle.line.specs.Limits.{table_entries, most_held}
use Rattle.line.specs.Octets.{same_octets}
use Rattle.line.specs.Table.{◌⇒◌, ◌∣◌, otherwise, first}
use Rattle.line.proofs.Symbols.{by_test}
use Rattle.line.proofs.Octets.{same_octets-refl}
use Rattle.line.proofs.Tables.{first_next, first-other}
use Rattle.station.specs.declared.Address.{Address}
use Rattle.station.specs.declared.Settings.{Settings}
use Rattle.station.specs.declared.Refusal.{Refusal}
use Rattle.station.specs.declared.Refusal.TheVariants.{BadJob, HoldsTwelve, AllInUse, AlreadyListed, NotListed, BadTable}
use Rattle.station.proofs.Refusals.{or-false, fine_row}
use Rattle.table.specs.declared.Holder.{Holder}
use Rattle.table.specs.declared.Holder.TheVariants.{Nobody, JobZero, JobOne}
use Rattle.table.specs.declared.Entry.{Entry}
use Rattle.table.specs.Entries.{entry_at, entries_of, is_held, is_free, unused, first_entry, free_entry, own_at, mine, own_entries, held, among, names, first_mine, is_found}
use Rattle.table.specs.Tests.{bad_job, twice, overfull, bad_table}
use Rattle.table.specs.Way.{accepts, way}
use Rattle.table.specs.Calls.{empty_table, freed, taken, is_listed, add_refusals, remove_refusals, put_at, changed, added, removed}
use Rattle.table.specs.Steps.{one_if}
use Rattle.table.specs.Claims.{placed_refusal, OneOf, after_call, frees, Alike, Call, adds, removes, after, Six, AllSix}
use Rattle.table.proofs.Entries.{entries_sixteen, entry_is, sixteen, own-not, never, mine_range, mine-here, mine-later, entry_here, entry_later, held_cons, blank_good}
use Rattle.table.proofs.Own.{among_more, overfull_more, overfull_less}
use Rattle.table.proofs.Written.{length-put, put_entries}

-- ---- readings: "a job's readings depend on its … own entries, and on entry numbers in item 7's answer only through where the table put them"

pub own-way : (job : ℕ) (t t' : List ℕ) → own_entries job t ≡ own_entries job t' → (s : Settings) (d : List ℕ)
    → way s (own_entries job t) d ≡ way s (own_entries job t') d
own-way job t t' same s d = ap (λ (ms : List (Option Address)). way s ms d) same

-- what a job accepts is decided by which addresses it lists, wherever they stand
pub own-accepts : (job : ℕ) (t t' : List ℕ) → ((d : List ℕ) → among d (own_entries job t) ≡ among d (own_entries job t')) → (s : Settings) (d : List ℕ)
    → accepts s (own_entries job t) d ≡ accepts s (own_entries job t') d
unfolding accepts
own-accepts job t t' same s d = rw (same d)

-- ---- where a search ends

entry_range : (test : Entry → Bool) (at : ℕ) (es : List Entry) (i : ℕ) → first_entry test at es ≡ Some i → (at ≤ i) × (i < at + length es)
unfolding first_entry
entry_range test at [] i h = never i h
entry_range test at (e ∷ es) i h =
    by_test (test e)
    (λ t. let z : Some at ≡ Some i = sym (entry_here test at e es t) ∙ h in let q : at ≡ i = cc in (omega arith, omega arith))
    (λ t. let ih = entry_range test (at + 1) es i (sym (entry_later test at e es t) ∙ h) in (omega arith, omega arith))

free_within : (t : List ℕ) (i : ℕ) → free_entry (entries_of t) ≡ Some i → i < table_entries
unfolding free_entry
free_within t i h = let r = entry_range unused 0 (entries_of t) i h in omega (arith, entries_sixteen t)

mine-within : (job : ℕ) (t d : List ℕ) (i : ℕ) → first_mine d 0 (own_entries job t) ≡ Some i → i < table_entries
mine-within job t d i h = let r = mine_range d 0 (own_entries job t) i h in omega (arith, sixteen job t)

first-true : (test : Entry → Bool) (at : ℕ) (es : List Entry) (i : ℕ) (z : Entry) → first_entry test at es ≡ Some i
    → (test (get_or es (i - at) z) ≡ true) × ((k : ℕ) → at ≤ k → k < i → test (get_or es (k - at) z) ≡ false)
unfolding first_entry
first-true test at [] i z h = never i h
first-true test at (e ∷ es) i z h =
    by_test (test e)
    (λ t. let x : Some at ≡ Some i = sym (entry_here test at e es t) ∙ h in
    let q : at ≡ i = cc in
    let zero' : i - at ≡ 0 = omega arith in
    (rw zero' t, λ k a b. absurd (omega arith)))
    (λ t. let rest = entry_later test at e es t in
    let range = entry_range test (at + 1) es i (sym rest ∙ h) in
    let ih = first-true test (at + 1) es i z (sym rest ∙ h) in
    let up : i - at ≡ suc (i - (at + 1)) = omega arith in (
      rw up ih.0,
      λ k a b. by_test (ltb at k)
          (λ l. let m = ltb-true at k l in let more : k - at ≡ suc (k - (at + 1)) = omega arith in rw more (ih.1 k (omega arith) b))
          (λ l. let m = ltb-false at k l in let here : k - at ≡ 0 = omega arith in rw here t),
    ))

-- the lowest free entry is free, and none below it is
lowest_free : (es : List Entry) (i : ℕ) (z : Entry) → free_entry es ≡ Some i
    → (unused (get_or es i z) ≡ true) × ((k : ℕ) → k < i → unused (get_or es k z) ≡ false)
unfolding free_entry
lowest_free es i z h =
    let f = first-true unused 0 es i z h in
    let same : (k : ℕ) → k - 0 ≡ k = λ k. omega arith in
    (rw (same i) at f.0, λ k l. rw (same k) at (f.1 k (omega arith) l))

-- ---- the entries after a call

refused-at : {P : Type 0} (x : Refusal) (i : ℕ) → ◌≡◌ {A = Result ℕ Refusal} (Err x) (Ok i) → P
refused-at x i h = let bad : ◌≡◌ {A = ℕ} 0 1 = cc in absurd (omega arith)

-- a call that was not refused found its entry
placed_at : (k : Checked) (f : Option ℕ) (t : List ℕ) (e : Entry) (i : ℕ) → (changed k f t e).answer ≡ Ok i → (k ≡ Ok tt) × (f ≡ Some i)
unfolding changed put_at
placed_at (Err x) f t e i h = let z : ◌≡◌ {A = Result ℕ Refusal} (Err x) (Ok i) = h in refused-at x i z
placed_at (Ok _) (Some j) t e i h = let z : ◌≡◌ {A = Result ℕ Refusal} (Ok j) (Ok i) = h in let q : j ≡ i = cc in (refl, ap Some q)
placed_at (Ok _) None t e i h = let z : ◌≡◌ {A = Result ℕ Refusal} (Err AllInUse) (Ok i) = h in refused-at AllInUse i z

module _ (t : List ℕ) (n : length t ≡ 128) (e : Entry) (six : length e.address.0 ≡ 6) where
  changed-entries : (k : Checked) (f : Option ℕ) → ((i : ℕ) → f ≡ Some i → i < table_entries)
      → (entries_of (changed k f t e).table ≡ after_call (changed k f t e).answer (entries_of t) e) × (length (changed k f t e).table ≡ 128)
  unfolding changed put_at after_call
  changed-entries (Err x) f within = (refl, n)
  changed-entries (Ok _) (Some i) within = (put_entries t i e n (within i refl) six, length-put t i e n (within i refl) six)
  changed-entries (Ok _) None within = (refl, n)

taken-six : (job : ℕ) (a : Address) → Six a → length (taken job a).address.0 ≡ 6
unfolding taken
taken-six job a six = six

freed-six : length freed.address.0 ≡ 6
unfolding freed
freed-six = refl

module _ (job : ℕ) (t : List ℕ) (a : Address) (n : length t ≡ 128) where
  pub added-entries : Six a → entries_of (added job t a).table ≡ after_call (added job t a).answer (entries_of t) (taken job a)
  unfolding added
  added-entries six = (changed-entries t n (taken job a) (taken-six job a six) _ (free_entry (entries_of t)) (free_within t)).0

  added-length : Six a → length (added job t a).table ≡ 128
  unfolding added
  added-length six = (changed-entries t n (taken job a) (taken-six job a six) _ (free_entry (entries_of t)) (free_within t)).1

  pub removed-entries : entries_of (removed job t a).table ≡ after_call (removed job t a).answer (entries_of t) freed
  unfolding removed
  removed-entries = (changed-entries t n freed freed-six _ (first_mine a.0 0 (own_entries job t)) (mine-within job t a.0)).0

  removed-length : length (removed job t a).table ≡ 128
  unfolding removed
  removed-length = (changed-entries t n freed freed-six _ (first_mine a.0 0 (own_entries job t)) (mine-within job t a.0)).1

map-after : {A B : Type 0} (f : A → B) (p : Result ℕ Refusal) (l : List A) (x : A) → map f (after_call p l x) ≡ after_call p (map f l) (f x)
unfolding after_call
map-after f (Err r) l x = refl
map-after f (Ok i) l x = map-set f l i x

mine-after : (job : ℕ) (p : Result ℕ Refusal) (es : List Entry) (e : Entry) → mine job (after_call p es e) ≡ after_call p (mine job es) (own_at job e)
unfolding mine
mine-after job p es e = map-after (own_at job) p es e

-- ---- whose an entry is

free_unheld : (job : ℕ) (h : Holder) → is_free h ≡ true → is_held job h ≡ false
free_unheld job Nobody f = refl
free_unheld job JobZero f = absurd (false≢true f)
free_unheld job JobOne f = absurd (false≢true f)

taken_own : (job : ℕ) (a : Address) → bad_job job ≡ false → own_at job (taken job a) ≡ Some a
unfolding bad_job taken own_at
taken_own zero a j = refl
taken_own (suc zero) a j = refl
taken_own (suc (suc m)) a j = let k = ltb-false 1 (suc (suc m)) j in absurd (omega arith)

taken-other : (job other : ℕ) (a : Address) → bad_job job ≡ false → (other ≡ job → ⊥) → own_at other (taken job a) ≡ None
unfolding bad_job taken
taken-other zero other a j apart = own-not other (taken zero a) (unfold taken in ne_eqb other 0 apart)
taken-other (suc zero) other a j apart = own-not other (taken (suc zero) a) (unfold taken in ne_eqb other 1 apart)
taken-other (suc (suc m)) other a j apart = let k = ltb-false 1 (suc (suc m)) j in absurd (omega arith)

freed-none : (job : ℕ) → own_at job freed ≡ None
unfolding own_at freed
freed-none job = refl

own-get_or : (job : ℕ) (es : List Entry) (i : ℕ) → get_or (mine job es) i None ≡ own_at job (get_or es i freed)
unfolding mine
own-get_or job es i = ap (get_or (map (own_at job) es) i) (sym (freed-none job)) ∙ get_or-map (own_at job) es i freed

-- a free entry is nobody's
free_none : (job : ℕ) (es : List Entry) (i : ℕ) → free_entry es ≡ Some i → get_or (mine job es) i None ≡ None
free_none job es i h =
    own-get_or job es i ∙ own-not job (get_or es i freed) (free_unheld job (get_or es i freed).holder (lowest_free es i freed h).0)

named_held : (job : ℕ) (d : List ℕ) (e : Entry) → names d (own_at job e) ≡ true → is_held job e.holder ≡ true
unfolding names
named_held job d e t =
    by_test (is_held job e.holder)
    (λ y. y)
    (λ y. absurd (false≢true (sym (ap (names d) (own-not job e y)) ∙ t)))

-- the entry by which a job lists an address is its own, and no other's
found_held : (job : ℕ) (d : List ℕ) (at : ℕ) (es : List Entry) (i : ℕ) → first_mine d at (mine job es) ≡ Some i
    → is_held job (get_or es (i - at) freed).holder ≡ true
unfolding mine
found_held job d at [] i h = (unfold first_mine in never i h)
found_held job d at (e ∷ es) i h =
    let ms = mine job es in
    by_test (names d (own_at job e))
    (λ t. let x : Some at ≡ Some i = sym (mine-here d at (own_at job e) ms t) ∙ h in
    let q : at ≡ i = cc in
    let zero' : i - at ≡ 0 = omega arith in
    rw zero' (named_held job d e t))
    (λ t. let rest = mine-later d at (own_at job e) ms t in
    let range = mine_range d (at + 1) ms i (sym rest ∙ h) in
    let up : i - at ≡ suc (i - (at + 1)) = omega arith in
    rw up (found_held job d (at + 1) es i (sym rest ∙ h)))

held_one : (job j : ℕ) (h : Holder) → is_held job h ≡ true → (j ≡ job → ⊥) → is_held j h ≡ false
held_one job j Nobody e d = absurd (false≢true e)
held_one job j JobZero e d = ne_eqb j 0 (λ k. d (k ∙ sym (eqb-true job 0 e)))
held_one job j JobOne e d = ne_eqb j 1 (λ k. d (k ∙ sym (eqb-true job 1 e)))

found_none : (job j : ℕ) (d : List ℕ) (es : List Entry) (i : ℕ) → first_mine d 0 (mine job es) ≡ Some i → (j ≡ job → ⊥) → get_or (mine j es) i None ≡ None
found_none job j d es i h apart =
    let same : i - 0 ≡ i = omega arith in
    own-get_or j es i ∙ own-not j (get_or es i freed) (held_one job j (get_or es i freed).holder (rw same at (found_held job d 0 es i h)) apart)

-- ---- what an addition that was not refused tells
record Passed (job : ℕ) (es : List Entry) (a : Address) : Type 0 where
  one : bad_job job ≡ false
  good : bad_table es ≡ false
  fresh : among a.0 (mine job es) ≡ false
  less : held (mine job es) < most_held

passed : (job : ℕ) (es : List Entry) (a : Address) → first (add_refusals job es a) ≡ Ok tt → Passed job es a
unfolding add_refusals is_listed
passed job es a fine =
    let r1 = fine_row BadJob _ fine in
    let r2 = fine_row BadTable _ r1.1 in
    let r3 = fine_row AlreadyListed _ r2.1 in
    let r4 = fine_row HoldsTwelve _ r3.1 in
    record { one = r1.0; good = r2.0; fresh = r3.0; less = leb-false most_held (held (mine job es)) r4.0 }

-- ---- "whatever the other does": no call of the other job changes a job's own entries

module _ (job j : ℕ) (t : List ℕ) (a : Address) (n : length t ≡ 128) (apart : j ≡ job → ⊥) where
  abbrev es : List Entry
  es = entries_of t

  add-keeps : (p : Result ℕ Refusal) → (added job t a).answer ≡ p → after_call p (mine j es) (own_at j (taken job a)) ≡ mine j es
  unfolding added after_call
  add-keeps (Err x) h = refl
  add-keeps (Ok i) h =
      let k = placed_at (first (add_refusals job (entries_of t) a)) (free_entry (entries_of t)) t (taken job a) i h in
      ap (set (mine j es) i) (taken-other job j a (passed job es a k.0).one apart ∙ sym (free_none j es i k.1)) ∙ set-get_or (mine j es) i None

  pub others-add : Six a → own_entries j (added job t a).table ≡ own_entries j t
  others-add six =
      ap (mine j) (added-entries job t a n six) ∙ mine-after j (added job t a).answer es (taken job a) ∙ add-keeps (added job t a).answer refl

  remove_keeps : (p : Result ℕ Refusal) → (removed job t a).answer ≡ p → after_call p (mine j es) (own_at j freed) ≡ mine j es
  unfolding removed after_call
  remove_keeps (Err x) h = refl
  remove_keeps (Ok i) h =
      let k = placed_at (first (remove_refusals job (entries_of t) a)) (first_mine a.0 0 (own_entries job t)) t freed i h in
      ap (set (mine j es) i) (freed-none j ∙ sym (found_none job j a.0 es i k.1 apart)) ∙ set-get_or (mine j es) i None

  pub others_remove : own_entries j (removed job t a).table ≡ own_entries j t
  others_remove =
      ap (mine j) (removed-entries job t a n) ∙ mine-after j (removed job t a).answer es freed ∙ remove_keeps (removed job t a).answer refl

-- ---- "its additions also on which entries the other holds", while no 20 is given

unfoldable first_true : ℕ → List Bool → Option ℕ
first_true at [] = None
first_true at (b ∷ l) = elim b [ true ↦ Some at | false ↦ first_true (at + 1) l ]

free_true : (at : ℕ) (es : List Entry) → first_entry unused at es ≡ first_true at (frees es)
unfolding first_entry first_true frees
free_true at [] = refl
free_true at (e ∷ es) = ap (λ (f : Option ℕ). elim (unused e) [ true ↦ Some at | false ↦ f ]) (free_true (at + 1) es)

changed-answer : (k : Checked) (f : Option ℕ) (t t' : List ℕ) (e : Entry) → (changed k f t e).answer ≡ (changed k f t' e).answer
unfolding changed put_at
changed-answer (Err x) f t t' e = refl
changed-answer (Ok _) (Some i) t t' e = refl
changed-answer (Ok _) None t t' e = refl

module _ (job : ℕ) (t t' : List ℕ) (a : Address) (like : Alike job t t') (good : bad_table (entries_of t) ≡ false) (good' : bad_table (entries_of t') ≡ false) where
  same_free : free_entry (entries_of t) ≡ free_entry (entries_of t')
  unfolding free_entry
  same_free = free_true 0 (entries_of t) ∙ ap (first_true 0) like.spare ∙ sym (free_true 0 (entries_of t'))

  same_refusals : first (add_refusals job (entries_of t) a) ≡ first (add_refusals job (entries_of t') a)
  unfolding add_refusals
  same_refusals = rw (good ∙ sym good', like.owns, same_free)

  same_answer : (added job t a).answer ≡ (added job t' a).answer
  unfolding added
  same_answer =
      ap₂ (λ (k : Checked) (f : Option ℕ). (changed k f t (taken job a)).answer) same_refusals same_free
      ∙ changed-answer (first (add_refusals job (entries_of t') a)) (free_entry (entries_of t')) t t' (taken job a)

  -- what is said of each entry stays alike
  seen : {B : Type 0} (f : Entry → B) → length t ≡ 128 → length t' ≡ 128 → Six a → map f (entries_of t) ≡ map f (entries_of t')
      → map f (entries_of (added job t a).table) ≡ map f (entries_of (added job t' a).table)
  seen {B} f n n' six same =
      ap (map f) (added-entries job t a n six)
      ∙ map-after f (added job t a).answer (entries_of t) (taken job a)
      ∙ ap₂ (λ (p : Result ℕ Refusal) (l : List B). after_call p l (f (taken job a))) same_answer same
      ∙ sym (ap (map f) (added-entries job t' a n' six) ∙ map-after f (added job t' a).answer (entries_of t') (taken job a))

  -- the same answer, and tables that are alike again
  pub own-adds : length t ≡ 128 → length t' ≡ 128 → Six a
      → ((added job t a).answer ≡ (added job t' a).answer) × Alike job (added job t a).table (added job t' a).table
  unfolding mine frees
  own-adds n n' six =
      (same_answer, record { owns = seen (own_at job) n n' six like.owns; spare = seen unused n n' six like.spare })

-- ---- "each always gets 4 whatever the other does"

unfoldable free_count : List Entry → ℕ
free_count [] = 0
free_count (e ∷ es) = one_if (is_free e.holder) + free_count es

one_each : (h : Holder) → one_if (is_free h) + one_if (is_held 0 h) + one_if (is_held 1 h) ≡ 1
one_each Nobody = refl
one_each JobZero = refl
one_each JobOne = refl

-- each entry is free or held by one job
all_counted : (es : List Entry) → free_count es + held (mine 0 es) + held (mine 1 es) ≡ length es
unfolding free_count mine
all_counted [] = (unfold held in refl)
all_counted (e ∷ es) =
    let ih = all_counted es in
    let one = one_each e.holder in
    let a = held_cons 0 e (mine 0 es) in
    let b = held_cons 1 e (mine 1 es) in
    omega arith

none_free : (at : ℕ) (es : List Entry) → first_entry unused at es ≡ None → free_count es ≡ 0
unfolding free_count
none_free at [] h = refl
none_free at (e ∷ es) h =
    by_test (unused e)
    (λ t. never at (sym h ∙ entry_here unused at e es t))
    (λ t. let ih = none_free (at + 1) es (sym (entry_later unused at e es t) ∙ h) in
    let z : is_free e.holder ≡ false = t in
    rw z (omega arith))

few : (es : List Entry) → bad_table es ≡ false → (held (mine 0 es) ≤ most_held) × (held (mine 1 es) ≤ most_held)
unfolding bad_table overfull
few es h =
    let k = or-false (overfull (mine 0 es)) (overfull (mine 1 es)) h in
    let a = or-false (ltb most_held (held (mine 0 es))) (twice (mine 0 es)) k.0 in
    let b = or-false (ltb most_held (held (mine 1 es))) (twice (mine 1 es)) k.1 in
    (ltb-false most_held (held (mine 0 es)) a.0, ltb-false most_held (held (mine 1 es)) b.0)

both-few : (job : ℕ) (es : List Entry) → bad_job job ≡ false → bad_table es ≡ false → held (mine job es) < 4 → held (mine 0 es) + held (mine 1 es) < table_entries
unfolding bad_job
both-few zero es j h less = omega (arith, few es h)
both-few (suc zero) es j h less = omega (arith, few es h)
both-few (suc (suc n)) es j h less = let k = ltb-false 1 (suc (suc n)) j in absurd (omega arith)

found_unless : (f : Option ℕ) → (f ≡ None → ⊥) → is_found f ≡ true
found_unless (Some i) h = refl
found_unless None h = absurd (h refl)

-- an address in the entry that a call took
among-placed : (d : List ℕ) (a : Address) (ms : List (Option Address)) (i : ℕ) → i < length ms → get_or ms i None ≡ None
    → among d (after_call (Ok i) ms (Some a)) ≡ (same_octets d a.0 || among d ms)
unfolding after_call
among-placed d a ms i h old = among_more a d ms i h old

-- a search that found an entry
At_of : (f : Option ℕ) → is_found f ≡ true → (P : Type 0) → ((i : ℕ) → f ≡ Some i → P) → P
At_of (Some i) h P go = go i refl
At_of None h P go = absurd (false≢true h)

module _ (job : ℕ) (t : List ℕ) (a : Address) (j : bad_job job ≡ false) (good : bad_table (entries_of t) ≡ false)
    (new : among a.0 (own_entries job t) ≡ false) (less : held (own_entries job t) < 4) where
  some_free : is_found (free_entry (entries_of t)) ≡ true
  unfolding free_entry
  some_free =
      let all = all_counted (entries_of t) in
      found_unless (first_entry unused 0 (entries_of t))
      (λ h. omega (arith, entries_sixteen t, none_free 0 (entries_of t) h, both-few job (entries_of t) j good less))

  not-refused : first (add_refusals job (entries_of t) a) ≡ Ok tt
  unfolding add_refusals is_listed
  not-refused =
      first_next (Err BadJob) _ j
      ∙ first_next (Err BadTable) _ good
      ∙ first_next (Err AlreadyListed) _ new
      ∙ first_next (Err HoldsTwelve) _ (lt-leb most_held (held (mine job (entries_of t))) (omega arith))
      ∙ first_next (Err AllInUse) _ (ap not some_free)
      ∙ first-other (Ok tt)

  answered : (i : ℕ) → free_entry (entries_of t) ≡ Some i → (added job t a).answer ≡ Ok i
  unfolding added changed put_at
  answered i h = rw (not-refused, h)

  pub always_four : placed_refusal (added job t a).answer ≡ 0
  always_four = At_of (free_entry (entries_of t)) some_free (placed_refusal (added job t a).answer ≡ 0) (λ i h. ap placed_refusal (answered i h))

  -- "Both may list the same address.": the other lists it, and the job gets it too
  pub both_list : length t ≡ 128 → Six a → (other : ℕ) → (other ≡ job → ⊥) → among a.0 (own_entries other t) ≡ true
      → (among a.0 (own_entries job (added job t a).table) ≡ true) × (among a.0 (own_entries other (added job t a).table) ≡ true)
  both_list n six other apart listed =
      let ms = own_entries job t in (
        At_of (free_entry (entries_of t)) some_free (among a.0 (own_entries job (added job t a).table) ≡ true)
            (λ i h. ap (λ (es : List Entry). among a.0 (mine job es)) (added-entries job t a n six)
            ∙ ap (among a.0) (mine-after job (added job t a).answer (entries_of t) (taken job a))
            ∙ ap₂ (λ (p : Result ℕ Refusal) (m : Option Address). among a.0 (after_call p ms m)) (answered i h) (taken_own job a j)
            ∙ among-placed a.0 a ms i (let w = free_within t i h in omega (arith, sixteen job t)) (free_none job (entries_of t) i h)
            ∙ ap (λ (b : Bool). b || among a.0 ms) (same_octets-refl a.0)),
        ap (among a.0) (others-add job other t a n apart six) ∙ listed,
      )

-- ---- "An addition takes the lowest free entry, so freed ones are used again."

nothing_free : (at : ℕ) (es : List Entry) (k : ℕ) → first_entry unused at es ≡ None → k < length es → unused (get_or es k freed) ≡ false
nothing_free at [] k e l = absurd (not-suc-le-zero l)
nothing_free at (x ∷ es) zero e l =
    by_test (unused x)
    (λ y. never at (sym e ∙ entry_here unused at x es y))
    (λ y. y)
nothing_free at (x ∷ es) (suc k) e l =
    by_test (unused x)
    (λ y. never at (sym e ∙ entry_here unused at x es y))
    (λ y. nothing_free (at + 1) es k (sym (entry_later unused at x es y) ∙ e) (le_of_suc-le-suc l))

freed-unused : unused freed ≡ true
unfolding freed
freed-unused = refl

module _ (job : ℕ) (t : List ℕ) (a : Address) (i : ℕ) (n : length t ≡ 128) where
  -- it was free, none below it was, and it is the job's now
  pub takes_lowest : Six a → (added job t a).answer ≡ Ok i
      → (unused (entry_at t i) ≡ true) × ((k : ℕ) → k < i → unused (entry_at t k) ≡ false) × (entries_of (added job t a).table ≡ set (entries_of t) i (taken job a))
  unfolding added after_call
  takes_lowest six h =
      let free = (placed_at (first (add_refusals job (entries_of t) a)) (free_entry (entries_of t)) t (taken job a) i h).1 in
      let low = lowest_free (entries_of t) i freed free in
      let within = free_within t i free in (
        ap unused (sym (entry_is t i freed within)) ∙ low.0,
        λ k l. ap unused (sym (entry_is t k freed (omega arith))) ∙ low.1 k l,
        added-entries job t a n six ∙ ap (λ (p : Result ℕ Refusal). after_call p (entries_of t) (taken job a)) h,
      )

  freed_there : (removed job t a).answer ≡ Ok i → unused (get_or (entries_of (removed job t a).table) i freed) ≡ true
  unfolding removed after_call
  freed_there h =
      let within = mine-within job t a.0 i (placed_at (first (remove_refusals job (entries_of t) a)) (first_mine a.0 0 (own_entries job t)) t freed i h).1 in
      ap (λ (l : List Entry). unused (get_or l i freed)) (removed-entries job t a n ∙ ap (λ (p : Result ℕ Refusal). after_call p (entries_of t) freed) h)
      ∙ ap unused (get_or-set_same (entries_of t) i freed freed (omega (arith, entries_sixteen t)))
      ∙ freed-unused

  freed-within : (removed job t a).answer ≡ Ok i → i < table_entries
  unfolding removed
  freed-within h = mine-within job t a.0 i (placed_at (first (remove_refusals job (entries_of t) a)) (first_mine a.0 0 (own_entries job t)) t freed i h).1

  -- an entry that was freed is free: the next addition finds one, and none above it
  pub freed-again : (removed job t a).answer ≡ Ok i
      → (is_found (free_entry (entries_of (removed job t a).table)) ≡ true) × ((k : ℕ) → free_entry (entries_of (removed job t a).table) ≡ Some k → k ≤ i)
  unfolding free_entry
  freed-again h =
      let es = entries_of (removed job t a).table in
      let inside : i < length es = (let w = freed-within h in omega (arith, entries_sixteen (removed job t a).table)) in (
        found_unless (free_entry es) (λ left. false≢true (sym (nothing_free 0 es i left inside) ∙ freed_there h)),
        λ k e. by_test (ltb i k)
            (λ l. absurd (false≢true (sym ((lowest_free es k freed e).1 i (ltb-true i k l)) ∙ freed_there h)))
            (λ l. ltb-false i k l),
      )

-- ---- no table call makes a table that gives 20

abbrev Fits : ℕ → List Entry → Type 0
Fits job es = overfull (mine job es) ≡ false

both_fit : (es : List Entry) → Fits 0 es → Fits 1 es → bad_table es ≡ false
unfolding bad_table
both_fit es h g = ap₂ ◌||◌ h g

each_fits : (es : List Entry) → bad_table es ≡ false → Fits 0 es × Fits 1 es
unfolding bad_table
each_fits es h = or-false (overfull (mine 0 es)) (overfull (mine 1 es)) h

module _ (job : ℕ) (t : List ℕ) (a : Address) (n : length t ≡ 128) (six : Six a) (good : bad_table (entries_of t) ≡ false) where
  abbrev old : List Entry
  old = entries_of t

  -- neither job is overfull after an addition
  add_fits : (j : ℕ) → Fits j old → (p : Result ℕ Refusal) → (added job t a).answer ≡ p → overfull (after_call p (mine j old) (own_at j (taken job a))) ≡ false
  unfolding added after_call
  add_fits j h (Err x) e = h
  add_fits j h (Ok i) e =
      let k = placed_at (first (add_refusals job old a)) (free_entry old) t (taken job a) i e in
      let was = passed job old a k.0 in
      let w = free_within t i k.1 in
      by_test (eqb j job)
      (λ q. let same : j ≡ job = eqb-true j job q in
      ap (λ (m : Option Address). overfull (set (mine j old) i m)) (ap (λ (x : ℕ). own_at x (taken job a)) same ∙ taken_own job a was.one)
      ∙ overfull_more a (mine j old) i (omega (arith, sixteen j t)) (free_none j old i k.1)
      (ap (λ (x : ℕ). among a.0 (mine x old)) same ∙ was.fresh) (subst (λ (x : ℕ). held (mine x old) < most_held) (sym same) was.less) h)
      (λ q. let apart : j ≡ job → ⊥ = eqb-false j job q in
      ap overfull (ap (set (mine j old) i) (taken-other job j a was.one apart ∙ sym (free_none j old i k.1)) ∙ set-get_or (mine j old) i None) ∙ h)

  added_fits : (j : ℕ) → Fits j old → Fits j (entries_of (added job t a).table)
  added_fits j h =
      ap overfull (ap (mine j) (added-entries job t a n six) ∙ mine-after j (added job t a).answer old (taken job a)) ∙ add_fits j h (added job t a).answer refl

  pub adds_stay_good : bad_table (entries_of (added job t a).table) ≡ false
  adds_stay_good =
      let was = each_fits old good in
      both_fit (entries_of (added job t a).table) (added_fits 0 was.0) (added_fits 1 was.1)

  -- nor after a removal
  remove_fits : (j : ℕ) → Fits j old → (p : Result ℕ Refusal) → overfull (after_call p (mine j old) (own_at j freed)) ≡ false
  unfolding after_call
  remove_fits j h (Err x) = h
  remove_fits j h (Ok i) = ap (λ (m : Option Address). overfull (set (mine j old) i m)) (freed-none j) ∙ overfull_less (mine j old) i h

  removed_fits : (j : ℕ) → Fits j old → Fits j (entries_of (removed job t a).table)
  removed_fits j h =
      ap overfull (ap (mine j) (removed-entries job t a n) ∙ mine-after j (removed job t a).answer old freed) ∙ remove_fits j h (removed job t a).answer

  pub removes_stay_good : bad_table (entries_of (removed job t a).table) ≡ false
  removes_stay_good =
      let was = each_fits old good in
      both_fit (entries_of (removed job t a).table) (removed_fits 0 was.0) (removed_fits 1 was.1)

stay_good : (t : List ℕ) (calls : List Call) → length t ≡ 128 → AllSix calls → bad_table (entries_of t) ≡ false → bad_table (entries_of (after t calls)) ≡ false
unfolding after AllSix
stay_good t [] n six good = good
stay_good t (adds job a ∷ calls) n six good =
    stay_good (added job t a).table calls (added-length job t a n six.0) six.1 (adds_stay_good job t a n six.0 good)
stay_good t (removes job a ∷ calls) n six good =
    stay_good (removed job t a).table calls (removed-length job t a n) six.1 (removes_stay_good job t a n six.0 good)

empty_length : length empty_table ≡ 128
unfolding empty_table
empty_length = length-replicate {A = ℕ} 128 0

empty_good : bad_table (entries_of empty_table) ≡ false
unfolding empty_table
empty_good = blank_good (replicate 128 0) (λ k h. get_or-replicate {A = ℕ} 128 (8 * k) 0 0 (omega arith))

-- from an empty table on, over any sequence of table calls
pub never_twenty : (calls : List Call) → AllSix calls → bad_table (entries_of (after empty_table calls)) ≡ false
never_twenty calls six = stay_good empty_table calls empty_length six empty_good

-- ---- "Table calls give only 14 to 18 and 20."

module _ (t : List ℕ) (e : Entry) where
  adding : (one bad listed full used : Bool) (f : Option ℕ) → OneOf (0 ∷ 14 ∷ 15 ∷ 16 ∷ 17 ∷ 20 ∷ []) (placed_refusal (changed (first (
      one ⇒ Err BadJob
      ∣ bad ⇒ Err BadTable
      ∣ listed ⇒ Err AlreadyListed
      ∣ full ⇒ Err HoldsTwelve
      ∣ used ⇒ Err AllInUse
      ∣ otherwise (Ok tt))) f t e).answer)
  unfolding first changed put_at
  adding true bad listed full used f = inr (inl refl)
  adding false true listed full used f = inr (inr (inr (inr (inr (inl refl)))))
  adding false false true full used f = inr (inr (inr (inr (inl refl))))
  adding false false false true used f = inr (inr (inl refl))
  adding false false false false true f = inr (inr (inr (inl refl)))
  adding false false false false false (Some i) = inl refl
  adding false false false false false None = inr (inr (inr (inl refl)))

pub add-gives : (job : ℕ) (t : List ℕ) (a : Address) → OneOf (0 ∷ 14 ∷ 15 ∷ 16 ∷ 17 ∷ 20 ∷ []) (placed_refusal (added job t a).answer)
unfolding added add_refusals
add-gives job t a =
    adding t (taken job a) (bad_job job) (bad_table (entries_of t)) (is_listed a (own_entries job t)) (leb most_held (held (own_entries job t)))
    (not (is_found (free_entry (entries_of t)))) (free_entry (entries_of t))

removing : (t : List ℕ) (one bad : Bool) (f : Option ℕ) → OneOf (0 ∷ 14 ∷ 18 ∷ 20 ∷ []) (placed_refusal (changed (first (
    one ⇒ Err BadJob
    ∣ bad ⇒ Err BadTable
    ∣ not (is_found f) ⇒ Err NotListed
    ∣ otherwise (Ok tt))) f t freed).answer)
unfolding first changed put_at
removing t true bad f = inr (inl refl)
removing t false true f = inr (inr (inr (inl refl)))
removing t false false (Some i) = inl refl
removing t false false None = inr (inr (inl refl))

pub remove_gives : (job : ℕ) (t : List ℕ) (a : Address) → OneOf (0 ∷ 14 ∷ 18 ∷ 20 ∷ []) (placed_refusal (removed job t a).answer)
unfolding removed remove_refusals
remove_gives job t a = removing t (bad_job job) (bad_table (entries_of t)) (first_mine a.0 0 (own_entries job t))
