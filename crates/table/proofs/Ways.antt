-- Document 02, item 7: which address let a frame in. The number is above 0 exactly where the address rule accepts, and at most 31. Assumes nothing.
use Rattle.std.specs.Prelude.{None, Option, Some}
use Prim.Native.Nat.{ℕ, ◌+◌, ◌≤◌, ◌<◌}
use native.Mathlib.Omega.{arith}
use mathlib.Core.Path.{◌≡◌, refl, ap, ◌∙◌}
use mathlib.Core.Bool.{Bool, true, false, ◌||◌, cond}
use mathlib.Core.List.{List}
use lib.ListN.{length}
use lib.Dec.{ltb}
use borrow.Author.Tests.{lt-ltb}
use Rattle.line.specs.Limits.{table_entries}
use Rattle.line.specs.Octets.{same_octets}
use Rattle.station.specs.declared.Address.{Address}
use Rattle.station.specs.declared.Settings.{Settings}
use Rattle.address.specs.Address.{broadcast_address}
use Rattle.table.specs.Entries.{own_entries, among, first_mine, is_found}
use Rattle.table.specs.Way.{accepts, otherwise_way, entry_way, way}
use Rattle.table.proofs.Entries.{sixteen, found_among, mine_range}

-- ---- the rule, by the tests that lead to it
module _ (s : Settings) (ms : List (Option Address)) (d : List ℕ) where
  pub accepts_all : s.promiscuous ≡ true → accepts s ms d ≡ true
  unfolding accepts
  accepts_all p = rw p

  pub accepts_broadcast : s.promiscuous ≡ false → same_octets d broadcast_address ≡ true → accepts s ms d ≡ s.broadcast
  unfolding accepts
  accepts_broadcast p b = rw (p, b)

  pub accepts-own : s.promiscuous ≡ false → same_octets d broadcast_address ≡ false → same_octets d s.own.0 ≡ true → accepts s ms d ≡ true
  unfolding accepts
  accepts-own p b o = rw (p, b, o)

  pub accepts-listed : s.promiscuous ≡ false → same_octets d broadcast_address ≡ false → same_octets d s.own.0 ≡ false → accepts s ms d ≡ among d ms
  unfolding accepts
  accepts-listed p b o = rw (p, b, o)

  -- ---- and the number
  pub way_broadcast : same_octets d broadcast_address ≡ true → s.broadcast ≡ true → way s ms d ≡ 6
  unfolding way
  way_broadcast b o = rw (b, o)

  pub way_unbroadcast : same_octets d broadcast_address ≡ true → s.broadcast ≡ false → way s ms d ≡ otherwise_way s.promiscuous
  unfolding way
  way_unbroadcast b o = rw (b, o)

  pub way-own : same_octets d broadcast_address ≡ false → same_octets d s.own.0 ≡ true → way s ms d ≡ 1
  unfolding way
  way-own b o = rw (b, o)

  pub way-listed : same_octets d broadcast_address ≡ false → same_octets d s.own.0 ≡ false → (found : Option ℕ) → found ≡ first_mine d 0 ms
      → entry_way found s.promiscuous ≡ way s ms d
  unfolding way
  way-listed b o found e = rw (b, o, e)

-- ---- it is at most 31, since there are 16 entries

entry_le : (f : Option ℕ) (p : Bool) → ((i : ℕ) → f ≡ Some i → i < table_entries) → entry_way f p ≤ 31
entry_le (Some i) p h = let k = h i refl in omega arith
entry_le None true h = omega arith
entry_le None false h = omega arith

at_most : (p b o on : Bool) (w : ℕ) → w ≤ 31 → cond b (cond on 6 (otherwise_way p)) (cond o 1 w) ≤ 31
at_most p true o true w h = omega arith
at_most true true o false w h = omega arith
at_most false true o false w h = omega arith
at_most p false true on w h = omega arith
at_most p false false on w h = h

pub way-le : (s : Settings) (ms : List (Option Address)) (d : List ℕ) → length ms ≤ table_entries → way s ms d ≤ 31
unfolding way
way-le s ms d few =
    at_most s.promiscuous (same_octets d broadcast_address) (same_octets d s.own.0) s.broadcast _
    (entry_le (first_mine d 0 ms) s.promiscuous (λ i e. let r = mine_range d 0 ms i e in omega arith))

-- of any octets
pub table-way-le : (s : Settings) (job : ℕ) (t d : List ℕ) → way s (own_entries job t) d ≤ 31
table-way-le s job t d = way-le s (own_entries job t) d (omega (arith, sixteen job t))

-- ---- "Accepted and refused stay as they are."

entry_above : (f : Option ℕ) (p : Bool) → ltb 0 (entry_way f p) ≡ (p || is_found f)
entry_above (Some i) true = lt-ltb 0 (16 + i) (omega arith)
entry_above (Some i) false = lt-ltb 0 (16 + i) (omega arith)
entry_above None true = refl
entry_above None false = refl

above : (p b o on : Bool) (f : Option ℕ) → ltb 0 (cond b (cond on 6 (otherwise_way p)) (cond o 1 (entry_way f p))) ≡ (p || cond b on (o || is_found f))
above true true o true f = refl
above true true o false f = refl
above false true o true f = refl
above false true o false f = refl
above true false true on f = refl
above false false true on f = refl
above true false false on f = entry_above f true
above false false false on f = entry_above f false

pub way-accepts : (s : Settings) (ms : List (Option Address)) (d : List ℕ) → ltb 0 (way s ms d) ≡ accepts s ms d
unfolding way accepts
way-accepts s ms d =
    above s.promiscuous (same_octets d broadcast_address) (same_octets d s.own.0) s.broadcast (first_mine d 0 ms)
    ∙ ap (λ (m : Bool). s.promiscuous || cond (same_octets d broadcast_address) s.broadcast (same_octets d s.own.0 || m)) (found_among d 0 ms)
