-- A look at a job's entries that marks the last octets of their addresses: an address whose last octet is not marked is not listed. Assumes nothing.
use Rattle.std.specs.Prelude.{None, Option, Some}
use Prim.Native.Nat.{ℕ, ◌+◌, ◌*◌, ◌≤◌, ◌<◌}
use native.Mathlib.Omega.{arith}
use mathlib.Core.Path.{◌≡◌, refl, sym, ap, ◌∙◌, subst}
use mathlib.Core.Bool.{Bool, true, false, ◌||◌, false≢true}
use mathlib.Core.List.{List, ◌∷◌}
use lib.ListN.{length, get_or, set, drop, length-set}
use lib.Seq.{get_or-set_same, get_or-set_other}
use lib.Dec.{eqb}
use borrow.Author.Tests.{eqb-true, eqb-false}
use Rattle.line.specs.Limits.{table_entries}
use Rattle.line.specs.Octets.{same_octets}
use Rattle.line.proofs.Octets.{same_octets-eq, false_unless}
use Rattle.line.proofs.Symbols.{by_test}
use Rattle.station.specs.declared.Address.{Address}
use Rattle.table.specs.declared.Entry.{Entry}
use Rattle.table.specs.Entries.{address_at, entry_at, is_held, own_at, own_entries, names, among}
use Rattle.table.specs.Tests.{twice}
use Rattle.table.specs.Steps.{Marked, Met}
use Rattle.table.proofs.Entries.{again-held, again-not, own_held, own-not, own-from, own-end, twice-later}

among_none : (d : List ℕ) (ms : List (Option Address)) → among d (None ∷ ms) ≡ among d ms
unfolding among names
among_none d ms = refl

zero≢one : ◌≡◌ {A = ℕ} 0 1 → ⊥
zero≢one e = omega arith

-- an entry that is not the job's: nothing is marked
pub met-not : (job : ℕ) (e : Entry) (seen : List ℕ) → is_held job e.holder ≡ false → Met (own_at job e) seen seen
met-not job e seen h ms marked =
    (again-not job e ms h, subst (λ (m : Option Address). Marked (m ∷ ms) seen) (sym (own-not job e h)) (marked.0, λ d l. marked.1 d (sym (among_none d ms) ∙ l)))

-- an entry's last octet is its address's
pub ends : (t : List ℕ) (k : ℕ) → get_or t (8 * k + 6) 0 ≡ get_or (entry_at t k).address.0 5 0
unfolding entry_at address_at
ends t k = ap (λ (i : ℕ). get_or t i 0) (omega arith)

-- a mark more leaves those that are there
marked_still : (seen : List ℕ) (last x : ℕ) → last < length seen → get_or seen x 0 ≡ 1 → get_or (set seen last 1) x 0 ≡ 1
marked_still seen last x h marked =
    by_test (eqb x last)
    (λ e. ap (λ (i : ℕ). get_or (set seen last 1) i 0) (eqb-true x last e) ∙ get_or-set_same seen last 1 0 h)
    (λ e. get_or-set_other seen last x 1 0 (eqb-false x last e) ∙ marked)

module _ (a : Address) (seen : List ℕ) (last : ℕ) (is : last ≡ get_or a.0 5 0) (h : last < 256) where
  -- one that is the job's, and whose last octet is not marked yet
  not-among : get_or seen last 0 ≡ 0 → (ms : List (Option Address)) → Marked ms seen → among a.0 ms ≡ false
  not-among new ms marked = false_unless _ (λ l. zero≢one (sym new ∙ ap (λ (i : ℕ). get_or seen i 0) is ∙ marked.1 a.0 l))

  names_marked : length seen ≡ 256 → (d : List ℕ) → same_octets d a.0 ≡ true → get_or (set seen last 1) (get_or d 5 0) 0 ≡ 1
  names_marked n d e =
      ap (λ (x : List ℕ). get_or (set seen last 1) (get_or x 5 0) 0) (same_octets-eq d a.0 e)
      ∙ sym (ap (λ (i : ℕ). get_or (set seen last 1) i 0) is)
      ∙ get_or-set_same seen last 1 0 (omega arith)

  marked_more : (ms : List (Option Address)) → Marked ms seen → Marked (Some a ∷ ms) (set seen last 1)
  unfolding among names
  marked_more ms marked =
      let n = marked.0 in (
        length-set seen last 1 ∙ n,
        λ d l. by_test (same_octets d a.0)
            (names_marked n d)
            (λ e. marked_still seen last (get_or d 5 0) (omega arith) (marked.1 d (sym (ap (λ (b : Bool). b || among d ms) e) ∙ l))),
      )

pub met-new : (job : ℕ) (e : Entry) (seen : List ℕ) (last : ℕ) → is_held job e.holder ≡ true → last ≡ get_or e.address.0 5 0 → last < 256
    → get_or seen last 0 ≡ 0 → Met (own_at job e) seen (set seen last 1)
met-new job e seen last held is h new ms marked = (
  again-held job e ms held ∙ not-among e.address seen last is h new ms marked,
  subst (λ (m : Option Address). Marked (m ∷ ms) (set seen last 1)) (sym (own_held job e held)) (marked_more e.address seen last is h ms marked),
)

-- ---- from the last entry on

pub none-among : (job : ℕ) (t : List ℕ) (k : ℕ) (d : List ℕ) → table_entries ≤ k → among d (drop k (own_entries job t)) ≡ true → ⊥
unfolding among
none-among job t k d h l = false≢true (sym (ap (among d) (own-end job t k h)) ∙ l)

-- an entry met anew behind which none is twice
pub marked_from : (job : ℕ) (t : List ℕ) (k : ℕ) (seen seen' : List ℕ) → k < table_entries → Met (own_at job (entry_at t k)) seen seen'
    → twice (drop (k + 1) (own_entries job t)) ≡ false → Marked (drop (k + 1) (own_entries job t)) seen
    → (twice (drop k (own_entries job t)) ≡ false) × Marked (drop k (own_entries job t)) seen'
marked_from job t k seen seen' h met once marked =
    let m = met (drop (k + 1) (own_entries job t)) marked in
    (sym (twice-later job t k h m.0) ∙ once, subst (λ (ms : List (Option Address)). Marked ms seen') (sym (own-from job t k h)) m.1)
