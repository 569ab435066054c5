-- What a job has of the table when one of its entries is set: how many it holds, which addresses it lists, and none twice. Assumes nothing.
use Rattle.std.specs.Prelude.{None, Option, Some}
use Rattle.std.proofs.lemmas.List.{map-set}
use Prim.Native.Nat.{ℕ, zero, suc, ◌+◌, ◌≤◌, ◌<◌}
use native.Mathlib.Omega.{arith}
use native.Mathlib.Nat.{not-suc-le-zero, le_of_suc-le-suc, le_refl}
use mathlib.Core.Path.{◌≡◌, refl, sym, ap, ap₂, ◌∙◌}
use mathlib.Core.Bool.{Bool, true, false, ◌||◌}
use mathlib.Core.List.{List, [], ◌∷◌}
use lib.ListN.{length, get_or, set}
use lib.Dec.{ltb}
use borrow.Author.Tests.{ltb-false, le-ltb}
use Rattle.line.specs.Limits.{most_held}
use Rattle.line.specs.Octets.{same_octets}
use Rattle.line.proofs.Octets.{same_octets-eq, same_octets-refl, same_test}
use Rattle.station.specs.declared.Address.{Address}
use Rattle.station.proofs.Refusals.{or-false}
use Rattle.table.specs.declared.Entry.{Entry}
use Rattle.table.specs.Entries.{own_at, mine, held, names, among}
use Rattle.table.specs.Tests.{again, twice, overfull}

pub mine-set : (job : ℕ) (es : List Entry) (i : ℕ) (e : Entry) → mine job (set es i e) ≡ set (mine job es) i (own_at job e)
unfolding mine
mine-set job es i e = map-set (own_at job) es i e

same_sym : (x y : List ℕ) → same_octets x y ≡ same_octets y x
same_sym x y =
    same_test (same_octets x y) (same_octets y x)
    (λ h. rw (same_octets-eq x y h) (same_octets-refl y))
    (λ h. rw (same_octets-eq y x h) (same_octets-refl x))

or_swap : (a b c : Bool) → (a || (b || c)) ≡ (b || (a || c))
or_swap true true c = refl
or_swap true false c = refl
or_swap false true c = refl
or_swap false false c = refl

-- ---- an address in an entry that was not its own
module _ (a : Address) where
  held_more : (ms : List (Option Address)) (i : ℕ) → i < length ms → get_or ms i None ≡ None → held (set ms i (Some a)) ≡ 1 + held ms
  unfolding held
  held_more [] i h old = absurd (not-suc-le-zero h)
  held_more (m ∷ ms) zero h old = sym (ap (λ (x : Option Address). 1 + held (x ∷ ms)) old)
  held_more (None ∷ ms) (suc i) h old = held_more ms i (le_of_suc-le-suc h) old
  held_more (Some b ∷ ms) (suc i) h old = ap (λ (n : ℕ). 1 + n) (held_more ms i (le_of_suc-le-suc h) old)

  pub among_more : (d : List ℕ) (ms : List (Option Address)) (i : ℕ) → i < length ms → get_or ms i None ≡ None
      → among d (set ms i (Some a)) ≡ (same_octets d a.0 || among d ms)
  unfolding among names
  among_more d [] i h old = absurd (not-suc-le-zero h)
  among_more d (m ∷ ms) zero h old = sym (ap (λ (x : Option Address). same_octets d a.0 || (names d x || among d ms)) old)
  among_more d (m ∷ ms) (suc i) h old =
      ap (λ (b : Bool). names d m || b) (among_more d ms i (le_of_suc-le-suc h) old) ∙ or_swap (names d m) (same_octets d a.0) (among d ms)

  -- an address that was not there makes none twice
  again_more : (m : Option Address) (ms : List (Option Address)) (i : ℕ) → i < length ms → get_or ms i None ≡ None → names a.0 m ≡ false
      → again m ms ≡ false → again m (set ms i (Some a)) ≡ false
  unfolding again names
  again_more None ms i h old new once = refl
  again_more (Some b) ms i h old new once =
      among_more b.0 ms i h old ∙ ap₂ ◌||◌ (same_sym b.0 a.0 ∙ new) once

  twice_more : (ms : List (Option Address)) (i : ℕ) → i < length ms → get_or ms i None ≡ None → among a.0 ms ≡ false → twice ms ≡ false
      → twice (set ms i (Some a)) ≡ false
  unfolding twice among again
  twice_more [] i h old new once = absurd (not-suc-le-zero h)
  twice_more (m ∷ ms) zero h old new once =
      ap₂ ◌||◌ (or-false (names a.0 m) (among a.0 ms) new).1 (or-false (again m ms) (twice ms) once).1
  twice_more (m ∷ ms) (suc i) h old new once =
      let n = or-false (names a.0 m) (among a.0 ms) new in
      let o = or-false (again m ms) (twice ms) once in
      ap₂ ◌||◌ (again_more m ms i (le_of_suc-le-suc h) old n.0 o.0) (twice_more ms i (le_of_suc-le-suc h) old n.1 o.1)

  pub overfull_more : (ms : List (Option Address)) (i : ℕ) → i < length ms → get_or ms i None ≡ None → among a.0 ms ≡ false → held ms < most_held
      → overfull ms ≡ false → overfull (set ms i (Some a)) ≡ false
  unfolding overfull
  overfull_more ms i h old new less fits =
      let one = held_more ms i h old in
      ap₂ ◌||◌ (le-ltb most_held (held (set ms i (Some a))) (omega arith)) (twice_more ms i h old new (or-false (ltb most_held (held ms)) (twice ms) fits).1)

-- ---- an entry that is freed

held_less : (ms : List (Option Address)) (i : ℕ) → held (set ms i None) ≤ held ms
unfolding held
held_less [] i = le_refl 0
held_less (None ∷ ms) zero = le_refl (held ms)
held_less (Some b ∷ ms) zero = omega arith
held_less (None ∷ ms) (suc i) = held_less ms i
held_less (Some b ∷ ms) (suc i) = let k = held_less ms i in omega arith

among_less : (d : List ℕ) (ms : List (Option Address)) (i : ℕ) → among d ms ≡ false → among d (set ms i None) ≡ false
unfolding among names
among_less d [] i h = h
among_less d (m ∷ ms) zero h = (or-false (names d m) (among d ms) h).1
among_less d (m ∷ ms) (suc i) h =
    let k = or-false (names d m) (among d ms) h in
    ap₂ ◌||◌ k.0 (among_less d ms i k.1)

again_less : (m : Option Address) (ms : List (Option Address)) (i : ℕ) → again m ms ≡ false → again m (set ms i None) ≡ false
unfolding again
again_less None ms i h = refl
again_less (Some b) ms i h = among_less b.0 ms i h

twice_less : (ms : List (Option Address)) (i : ℕ) → twice ms ≡ false → twice (set ms i None) ≡ false
unfolding twice again
twice_less [] i h = h
twice_less (m ∷ ms) zero h = (or-false (again m ms) (twice ms) h).1
twice_less (m ∷ ms) (suc i) h =
    let k = or-false (again m ms) (twice ms) h in
    ap₂ ◌||◌ (again_less m ms i k.0) (twice_less ms i k.1)

pub overfull_less : (ms : List (Option Address)) (i : ℕ) → overfull ms ≡ false → overfull (set ms i None) ≡ false
unfolding overfull
overfull_less ms i fits =
    let k = or-false (ltb most_held (held ms)) (twice ms) fits in
    let few = ltb-false most_held (held ms) k.0 in
    ap₂ ◌||◌ (le-ltb most_held (held (set ms i None)) (omega (arith, held_less ms i))) (twice_less ms i k.1)
