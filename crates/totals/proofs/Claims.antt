-- Document 02, item 9, of the question and of filling: the answer is right whenever the totals are true (`answer_right`), true totals are never refused
-- (`true_fit`) and so answer every place of a capture (`true_answers`); filling makes them true (`filled-true`) and, refused, changes none
-- (`fill_refused-none`); which blocks are written into (`written_into_is`). Assumes nothing.
use Rattle.std.specs.Prelude.{Err, Ok}
use Rattle.station.specs.Numbers.{Checked}
use Prim.Native.Nat.{ℕ, zero, suc, ◌+◌, ◌*◌, ◌/◌, ◌≤◌, ◌<◌}
use native.Mathlib.Omega.{arith}
use mathlib.Core.Path.{◌≡◌, refl, sym, ap, ◌∙◌}
use mathlib.Core.Bool.{true, false, not}
use mathlib.Core.Logic.{◌↔◌}
use mathlib.Core.List.{List, [], ◌∷◌}
use lib.ListN.{length, take, drop, length-take}
use lib.Dec.{ltb}
use borrow.Author.Tests.{eq-eqb, le-ltb, ltb-true, ltb-false}
use Rattle.line.specs.Limits.{block_size, most_total}
use Rattle.line.specs.Line.{Symbol, capture, is_start, start_count}
use Rattle.line.specs.Table.{first}
use Rattle.line.proofs.Symbols.{by_test, starts-start, starts_other}
use Rattle.line.proofs.Buffers.{length-capture}
use Rattle.line.proofs.Tables.{first_next, first-other}
use Rattle.station.specs.declared.Refusal.TheVariants.{BadBuffers, BadPlace, WrongTotals, HighTotal}
use Rattle.station.specs.Station.{bad_buffers, bad_place}
use Rattle.station.specs.Numbers.{checked_number}
use Rattle.totals.specs.Totals.{blocks, block_total, totals_from, true_totals, starts_before, answer, written_into, wrong_totals, high_total, before_refusals, fill_refusals, before_checked, before_place, fill_checked, filled}
use Rattle.totals.proofs.Laws.{right, length_from, into, was_into}
use Rattle.totals.proofs.Tests.{known, same_length, within}

-- ---- the question

answered : (r : Checked) (os ms : List ℕ) (place : ℕ) (ts : List ℕ) (n : ℕ) → before_checked r os ms place ts ≡ Ok n
    → (r ≡ Ok tt) × (answer ts (capture os ms) place ≡ n)
unfolding before_checked
answered (Err x) os ms place ts n h = (cc, cc)
answered (Ok _) os ms place ts n h = (refl, cc)

-- "equals a count over everything before the place": "The answer is right whenever the totals are true."
pub answer_right : (os ms : List ℕ) (place : ℕ) (ts : List ℕ) (n : ℕ) → ts ≡ true_totals (capture os ms) → before_place os ms place ts ≡ Ok n
    → n ≡ starts_before (capture os ms) place
unfolding before_place
answer_right os ms place ts n e h =
    let a = answered (first (before_refusals os ms place ts)) os ms place ts n h in
    let k = known os ms place ts a.0 in
    let m = length-capture os ms k.even in
    let i = k.inside in
    sym a.1 ∙ right (capture os ms) ts place e (omega arith)

-- a stretch has no more Starts than symbols
starts-few : (c : List Symbol) → start_count c ≤ length c
unfolding start_count
starts-few [] = omega arith
starts-few (x ∷ c) =
    let ih = starts-few c in
    by_test (is_start x) (λ h. let e = starts-start x c h in omega arith) (λ h. let e = starts_other x c h in omega arith)

block_low : (c : List Symbol) (k : ℕ) → ltb most_total (block_total c k) ≡ false
unfolding block_total
block_low c k =
    let block : List Symbol = take block_size (drop (block_size * k) c) in
    let s = starts-few block in
    let n = length-take block_size (drop (block_size * k) c) in
    le-ltb most_total (start_count block) (omega arith)

from_low : (c : List Symbol) (k n : ℕ) → high_total (totals_from c k n) ≡ false
unfolding totals_from high_total
from_low c k zero = refl
from_low c k (suc n) = rw (block_low c k, from_low c (k + 1) n)

-- neither 21 nor 22 is given of true totals
pub true_fit : (os ms ts : List ℕ) → length os ≡ length ms → ts ≡ true_totals (capture os ms) → (wrong_totals os ts ≡ false) × (high_total ts ≡ false)
unfolding true_totals wrong_totals
true_fit os ms ts even e =
    let c : List Symbol = capture os ms in
    let count : length ts ≡ blocks (length os) = ap length e ∙ length_from c 0 (blocks (length c)) ∙ ap blocks (length-capture os ms even) in
    (ap not (eq-eqb (length ts) (blocks (length os)) count), ap high_total e ∙ from_low c 0 (blocks (length c)))

-- so that with them every place of a capture has its answer
pub true_answers : (os ms : List ℕ) (place : ℕ) (ts : List ℕ) → ts ≡ true_totals (capture os ms) → bad_buffers os ms ≡ false → bad_place os place ≡ false
    → before_place os ms place ts ≡ Ok (starts_before (capture os ms) place)
unfolding before_place before_refusals before_checked
true_answers os ms place ts e h2 h3 =
    let b = same_length os ms h2 in
    let f = true_fit os ms ts b.0 e in
    let n = length-capture os ms b.0 in
    let w = within os place h3 in
    let fine =
    first_next (Err BadBuffers) _ h2
    ∙ first_next (Err BadPlace) _ h3
    ∙ first_next (Err WrongTotals) _ f.0
    ∙ first_next (Err HighTotal) _ f.1
    ∙ first-other (Ok tt) in
    ap (λ (r : Checked). before_checked r os ms place ts) fine ∙ ap Ok (right (capture os ms) ts place e (omega arith))

-- ---- filling: "one call fills them all for a capture"

fill_makes : (k : Checked) (os ms ts : List ℕ) → (fill_checked k os ms ts).given ≡ Ok tt → (fill_checked k os ms ts).totals ≡ true_totals (capture os ms)
unfolding fill_checked
fill_makes (Err x) os ms ts h = cc
fill_makes (Ok _) os ms ts h = refl

fill_none : (k : Checked) (os ms ts : List ℕ) → 0 < checked_number (fill_checked k os ms ts).given → (fill_checked k os ms ts).totals ≡ ts
unfolding fill_checked
fill_none (Err x) os ms ts h = refl
fill_none (Ok _) os ms ts h = absurd (omega arith)

-- not refused, it makes the totals true, whatever they were
pub filled-true : (os ms ts : List ℕ) → (filled os ms ts).given ≡ Ok tt → (filled os ms ts).totals ≡ true_totals (capture os ms)
unfolding filled
filled-true os ms ts h = fill_makes (first (fill_refusals os ms ts)) os ms ts h

-- "A refused call changes none."
pub fill_refused-none : (os ms ts : List ℕ) → 0 < checked_number (filled os ms ts).given → (filled os ms ts).totals ≡ ts
unfolding filled
fill_refused-none os ms ts h = fill_none (first (fill_refusals os ms ts)) os ms ts h

-- ---- "the blocks it writes into": a block is written into exactly if one of the places from `from` up to `to` lies in it

pub written_into_is : (from to k : ℕ) → (written_into from to k ≡ true) ↔ ((p : ℕ) × (from ≤ p) × (p < to) × (p / block_size ≡ k))
written_into_is from to k = (
  λ w. let x = was_into from to k w in
      by_test (ltb from (block_size * k))
      (λ t. let low = ltb-true from (block_size * k) t in (block_size * k, omega arith, omega arith, omega arith))
      (λ t. let high = ltb-false from (block_size * k) t in (from, omega arith, omega arith, omega arith)),
  λ s. let a = s.1 in
      let b = s.2 in
      let e = s.3 in
      into from to k (omega arith) (omega arith) (omega arith),
)
