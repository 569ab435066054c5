-- Claim 2, demand 1, of the table calls (document 02, item 10): each refuses by exactly the numbers of its list, the first that holds, and refused it leaves
-- every octet of the table. The statements are `adding_refuses` and `removing_refuses`. Assumes nothing.
use Rattle.std.specs.Prelude.{Err, None, Ok, Option, Some}
use Rattle.station.specs.Numbers.{Checked}
use Prim.Native.Nat.{ℕ, ◌<◌}
use native.Mathlib.Omega.{arith}
use mathlib.Core.Path.{◌≡◌, refl}
use mathlib.Core.Bool.{false, not, true≢false}
use mathlib.Core.List.{List, [], ◌∷◌}
use Rattle.line.specs.Table.{Table, first}
use Rattle.station.specs.declared.Address.{Address}
use Rattle.station.specs.declared.Refusal.TheVariants.{BadJob, HoldsTwelve, AllInUse, AlreadyListed, NotListed, BadTable}
use Rattle.station.specs.Numbers.{checked_number}
use Rattle.station.proofs.Refusals.{fine_row}
use Rattle.table.specs.declared.Entry.{Entry}
use Rattle.table.specs.Entries.{entries_of, free_entry, mine, first_mine, is_found}
use Rattle.table.specs.Calls.{freed, taken, add_refusals, remove_refusals, put_at, changed, added, removed}
use Rattle.table.specs.Claims.{placed_refusal}
use Rattle.mac.specs.Demand1.{numbers_of}
use Rattle.mac.specs.Tables.{ChangesOrRefuses}
use Rattle.mac.proofs.Demand1.{is_in, repeats, Listed, exactly}

-- ---- any call on a table: where nothing refuses, its search found an entry

call_number : (k : Checked) (f : Option ℕ) (t : List ℕ) (e : Entry) → (k ≡ Ok tt → not (is_found f) ≡ false)
    → placed_refusal (changed k f t e).answer ≡ checked_number k
unfolding changed put_at
call_number (Err x) f t e found = refl
call_number (Ok _) (Some i) t e found = refl
call_number (Ok _) None t e found = absurd (true≢false (found refl))

call_kept : (k : Checked) (f : Option ℕ) (t : List ℕ) (e : Entry) → 0 < checked_number k → (changed k f t e).table ≡ t
unfolding changed
call_kept (Err x) f t e h = refl
call_kept (Ok _) f t e h = absurd (omega arith)

call_refuses : {rows : Table Checked} {numbers : List ℕ} → Listed rows numbers → (f : Option ℕ) (t : List ℕ) (e : Entry)
    → (first rows ≡ Ok tt → not (is_found f) ≡ false) → ChangesOrRefuses rows numbers t (changed (first rows) f t e)
call_refuses {rows} w f t e found =
    let n = call_number (first rows) f t e found in
    record {
      exactly = exactly w n;
      refused = λ h. call_kept (first rows) f t e (omega arith);
    }

-- ---- adding: "When adding, 17 comes before 15 and 16."

module _ (job : ℕ) (es : List Entry) (a : Address) where
  add-listed : Listed (add_refusals job es a) (14 ∷ 20 ∷ 17 ∷ 15 ∷ 16 ∷ [])
  unfolding add_refusals numbers_of repeats is_in
  add-listed = (refl, refl)

  add_found : first (add_refusals job es a) ≡ Ok tt → not (is_found (free_entry es)) ≡ false
  unfolding add_refusals
  add_found h =
      let one = fine_row BadJob _ h in
      let two = fine_row BadTable _ one.1 in
      let three = fine_row AlreadyListed _ two.1 in
      let four = fine_row HoldsTwelve _ three.1 in
      (fine_row AllInUse _ four.1).0

  -- ---- removing: "18 not listed by this job"

  remove_listed : Listed (remove_refusals job es a) (14 ∷ 20 ∷ 18 ∷ [])
  unfolding remove_refusals numbers_of repeats is_in
  remove_listed = (refl, refl)

  remove_found : first (remove_refusals job es a) ≡ Ok tt → not (is_found (first_mine a.0 0 (mine job es))) ≡ false
  unfolding remove_refusals
  remove_found h =
      let one = fine_row BadJob _ h in
      let two = fine_row BadTable _ one.1 in
      (fine_row NotListed _ two.1).0

-- ---- the claims, of a table's octets

module _ (job : ℕ) (t : List ℕ) (a : Address) where
  pub adding_refuses : ChangesOrRefuses (add_refusals job (entries_of t) a) (14 ∷ 20 ∷ 17 ∷ 15 ∷ 16 ∷ []) t (added job t a)
  unfolding added
  adding_refuses = call_refuses (add-listed job (entries_of t) a) (free_entry (entries_of t)) t (taken job a) (add_found job (entries_of t) a)

  pub removing_refuses : ChangesOrRefuses (remove_refusals job (entries_of t) a) (14 ∷ 20 ∷ 18 ∷ []) t (removed job t a)
  unfolding removed
  removing_refuses =
      call_refuses (remove_listed job (entries_of t) a) (first_mine a.0 0 (mine job (entries_of t))) t freed (remove_found job (entries_of t) a)
