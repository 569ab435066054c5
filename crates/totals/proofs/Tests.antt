-- What the rows of the tables tell, and one turn of the loops over the totals. Assumes nothing.
use Rattle.std.specs.Prelude.{Ok}
use Prim.Native.Nat.{ℕ, zero, suc, ◌+◌, ◌≤◌, ◌<◌}
use native.Mathlib.Omega.{arith}
use native.Mathlib.Numerals.{add-one}
use mathlib.Core.Path.{◌≡◌, refl, sym, ap, ◌∙◌}
use mathlib.Core.Bool.{Bool, true, false, not, cond, ◌||◌}
use mathlib.Core.List.{List, [], ◌∷◌, ◌++◌}
use lib.ListN.{length, get_or, take, drop, drop_of_length-le}
use lib.Seq.{take-suc, drop-cons}
use lib.Dec.{eqb, ltb}
use borrow.Author.Tests.{eqb-true, ltb-false}
use Rattle.line.specs.Limits.{most_symbols, most_total}
use Rattle.line.specs.Table.{first}
use Rattle.station.specs.declared.Refusal.TheVariants.{BadBuffers, BadPlace, WrongTotals, HighTotal}
use Rattle.station.specs.Station.{bad_buffers, bad_place, total}
use Rattle.station.proofs.Refusals.{fine_row, or-false, not-false}
use Rattle.totals.specs.Totals.{blocks, wrong_totals, high_total, before_refusals, fill_refusals}

-- ---- what a row that does not hold tells

pub same_length : (os ms : List ℕ) → bad_buffers os ms ≡ false → (length os ≡ length ms) × (length os ≤ most_symbols)
unfolding bad_buffers
same_length os ms h =
    let both = or-false (not (eqb (length os) (length ms))) (ltb most_symbols (length os)) h in
    (eqb-true (length os) (length ms) (not-false (eqb (length os) (length ms)) both.0), ltb-false most_symbols (length os) both.1)

pub within : (os : List ℕ) (place : ℕ) → bad_place os place ≡ false → place ≤ length os
unfolding bad_place
within os place h = ltb-false (length os) place h

pub as_many : (os ts : List ℕ) → wrong_totals os ts ≡ false → length ts ≡ blocks (length os)
unfolding wrong_totals
as_many os ts h = eqb-true (length ts) (blocks (length os)) (not-false (eqb (length ts) (blocks (length os))) h)

-- what a call knows that is not refused
pub record Known (os ms : List ℕ) (place : ℕ) (ts : List ℕ) : Type 0 where
  pub even : length os ≡ length ms
  pub small : length os ≤ most_symbols
  pub inside : place ≤ length os
  pub count : length ts ≡ blocks (length os)
  pub low : high_total ts ≡ false

pub known : (os ms : List ℕ) (place : ℕ) (ts : List ℕ) → first (before_refusals os ms place ts) ≡ Ok tt → Known os ms place ts
unfolding before_refusals
known os ms place ts h =
    let r2 = fine_row BadBuffers _ h in
    let r3 = fine_row BadPlace _ r2.1 in
    let r21 = fine_row WrongTotals _ r3.1 in
    let r22 = fine_row HighTotal _ r21.1 in
    let b = same_length os ms r2.0 in
    record { even = b.0; small = b.1; inside = within os place r3.0; count = as_many os ts r21.0; low = r22.0 }

pub known_fill : (os ms ts : List ℕ) → first (fill_refusals os ms ts) ≡ Ok tt → (length os ≡ length ms) × (length ts ≡ blocks (length os))
unfolding fill_refusals
known_fill os ms ts h =
    let r2 = fine_row BadBuffers _ h in
    let r21 = fine_row WrongTotals _ r2.1 in
    ((same_length os ms r2.0).0, as_many os ts r21.0)

-- ---- one turn of the search for a total above 256

pub high_turn : (b : Bool) (ts : List ℕ) (i : ℕ) → i < length ts
    → (b || ltb most_total (get_or ts i 0) || high_total (drop (i + 1) ts)) ≡ (b || high_total (drop i ts))
unfolding high_total
high_turn true ts i h = refl
high_turn false ts i h =
    ap (λ (n : ℕ). ltb most_total (get_or ts i 0) || high_total (drop n ts)) (add-one i)
    ∙ sym (ap high_total (drop-cons ts i 0 h))

pub high_end : (b : Bool) (ts : List ℕ) (i : ℕ) → length ts ≤ i → (b || high_total (drop i ts)) ≡ b
unfolding high_total
high_end true ts i h = refl
high_end false ts i h = ap high_total (drop_of_length-le ts {i = i} h)

-- no total is above 256
pub each_low : (ts : List ℕ) → high_total ts ≡ false → (i : ℕ) → get_or ts i 0 ≤ most_total
unfolding high_total
each_low [] h i = omega arith
each_low (t ∷ ts) h zero = ltb-false most_total t (or-false (ltb most_total t) (high_total ts) h).0
each_low (t ∷ ts) h (suc i) = each_low ts (or-false (ltb most_total t) (high_total ts) h).1 i

-- ---- one turn of the sum

total-append : (a b : List ℕ) → total (a ++ b) ≡ total a + total b
unfolding total
total-append [] b = omega arith
total-append (x ∷ a) b = let ih = total-append a b in omega arith

pub sum-next : (ts : List ℕ) (i : ℕ) → i < length ts → total (take (i + 1) ts) ≡ total (take i ts) + get_or ts i 0
sum-next ts i h =
    ap (λ (n : ℕ). total (take n ts)) (add-one i)
    ∙ ap total (take-suc ts i 0 h)
    ∙ total-append (take i ts) (get_or ts i 0 ∷ [])
    ∙ ap (λ (n : ℕ). total (take i ts) + n) (unfold total in omega arith)

-- a symbol counts for 1 at most
pub one-small : (n : ℕ) (b : Bool) → n ≡ cond b 1 0 → n ≤ 1
one-small n true e = omega arith
one-small n false e = omega arith
