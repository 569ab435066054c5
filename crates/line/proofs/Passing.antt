-- Places that a search has passed: one block more, one stretch after another, and what the search then is. Assumes nothing.
use Rattle.std.specs.Prelude.{Some, None}
use Prim.Native.Nat.{ℕ, ◌+◌, ◌-◌, ◌≤◌, ◌<◌}
use native.Mathlib.Omega.{arith}
use mathlib.Core.Path.{◌≡◌, sym, ap, ◌∙◌, subst}
use mathlib.Core.Bool.{Bool, true, false}
use mathlib.Core.List.{List}
use lib.ListN.{length}
use lib.Dec.{leb}
use borrow.Author.Tests.{leb-true, leb-false}
use Rattle.line.specs.Line.{Symbol, is_control, is_start}
use Rattle.line.specs.Passed.{Passed, Has}
use Rattle.line.proofs.Symbols.{by_test}
use Rattle.line.proofs.Buffers.{symbol_at}
use Rattle.line.proofs.Search.{from, search_here, search_skip, search_end-octets, search_end-marks, data_tests, no_start-octet}

module _ (P : ℕ → Type 0) where
  pub passed_none : (a e : ℕ) → a ≤ e → Passed P a a e
  passed_none a e h = record { forth = omega arith; within = h; each = λ k l g. absurd (omega arith) }

  -- n places more
  pub passed_more : (a i e n : ℕ) → Passed P a i e → i + n ≤ e → ((k : ℕ) → k < n → P (i + k)) → Passed P a (i + n) e
  passed_more a i e n p h f =
      let u = p.forth in record {
        forth = omega arith;
        within = h;
        each = λ k l g. by_test (leb i k)
            (λ t. let q = leb-true i k t in subst P (let s : i + (k - i) ≡ k = omega arith in s) (f (k - i) (omega arith)))
            (λ t. p.each k l (leb-false i k t));
      }

  -- one place more
  pub passed-one : (a i e : ℕ) → Passed P a i e → i < e → P i → Passed P a (i + 1) e
  passed-one a i e p h f = passed_more a i e 1 p (omega arith) (λ k l. subst P (let s : i ≡ i + k = omega arith in s) f)

  pub passed_on : (a b d e : ℕ) → Passed P a b e → Passed P b d e → Passed P a d e
  passed_on a b d e p q =
      let u = p.forth in
      let v = q.forth in record {
        forth = omega arith;
        within = q.within;
        each = λ k l g. by_test (leb b k) (λ t. q.each k (leb-true b k t) g) (λ t. p.each k l (leb-false b k t));
      }

pub passed_as : {P Q : ℕ → Type 0} {a b e : ℕ} → ((k : ℕ) → P k → Q k) → Passed P a b e → Passed Q a b e
passed_as f p = record { forth = p.forth; within = p.within; each = λ k l g. f k (p.each k l g) }

-- a search over the two buffers goes on where it came to, by what it passed
module _ (test : Symbol → Bool) (os ms : List ℕ) where
  abbrev pub Miss : ℕ → Type 0
  Miss k = test (symbol_at os ms k) ≡ false

  pub passed_search : (a b e : ℕ) → e ≤ length os → e ≤ length ms → Passed Miss a b e → from test os ms a ≡ from test os ms b
  passed_search a b e h g p =
      let u = p.forth in
      let v = p.within in
      let w : a + (b - a) ≡ b = omega arith in
      search_skip test os ms (b - a) a (omega arith) (omega arith) (λ k l. p.each (a + k) (omega arith) (omega arith)) ∙ ap (from test os ms) w

  -- found where it stopped, or nothing at the end of the shorter buffer
  pub search_found : (a b e : ℕ) → e ≤ length os → e ≤ length ms → Passed Miss a b e → b < e → test (symbol_at os ms b) ≡ true → Some b ≡ from test os ms a
  search_found a b e h g p l t = sym (passed_search a b e h g p ∙ search_here test os ms b (omega arith) (omega arith) t)

  pub search_none : (a e : ℕ) → (e < length os → e ≡ length ms) → e ≤ a → None ≡ from test os ms a
  search_none a e x h =
      by_test (leb (length os) e)
      (λ t. let q = leb-true (length os) e t in sym (search_end-octets test os ms a (omega arith)))
      (λ t. let q = x (leb-false (length os) e t) in sym (search_end-marks test os ms a (omega arith)))

  pub search_ended : (a b e : ℕ) → e ≤ length os → e ≤ length ms → (e < length os → e ≡ length ms) → Passed Miss a b e → e ≤ b → None ≡ from test os ms a
  search_ended a b e h g x p l = search_none b e x l ∙ sym (passed_search a b e h g p)

-- a mark 0 is no control symbol, and an Idle no Start, whatever its mark
pub data_passed : (os ms : List ℕ) (k : ℕ) → Has ms 0 k → Miss is_control os ms k
data_passed os ms k h = data_tests (symbol_at os ms k) h

pub idle-passed : (os ms : List ℕ) (k : ℕ) → Has os 0x07 k → Miss is_start os ms k
idle-passed os ms k h = no_start-octet (symbol_at os ms k) (λ g. let z : ◌≡◌ {A = ℕ} 0x07 0xFB = sym h ∙ g in omega arith)
