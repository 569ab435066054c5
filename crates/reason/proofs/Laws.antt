-- Laws of specs/Reasons.antt that the functions' proofs cite. Assumes nothing.
use Rattle.std.specs.Prelude.{Err, None, Ok, Option, Some}
use Rattle.station.specs.Numbers.{Checked}
use Prim.Native.Nat.{ℕ, suc, ◌+◌, ◌*◌, ◌≤◌, ◌<◌}
use native.Mathlib.Omega.{arith}
use native.Mathlib.Numerals.{add-one}
use mathlib.Core.Path.{◌≡◌, refl, ap, ◌∙◌}
use mathlib.Core.List.{List, [], ◌∷◌}
use lib.ListN.{length, get_or, drop, drop_of_length-le}
use lib.Seq.{drop-cons}
use borrow.Author.Tests.{eq-eqb, ne_eqb, lt-ltb, le-ltb}
use Rattle.line.specs.Limits.{preamble_size}
use Rattle.line.specs.Line.{capture, find_start, find_control, preamble}
use Rattle.line.specs.Octets.{between}
use Rattle.line.specs.Octets.{low_first}
use Rattle.line.specs.Table.{first}
use Rattle.line.proofs.Buffers.{length-capture}
use Rattle.line.proofs.Places.{after_found, after_nothing}
use Rattle.station.specs.declared.Address.{Address}
use Rattle.station.specs.declared.Settings.{Settings}
use Rattle.station.specs.declared.Refusal.{Refusal}
use Rattle.table.specs.declared.Entry.{Entry}
use Rattle.table.specs.Entries.{mine}
use Rattle.receive.specs.Reading.{read_refusals}
use Rattle.receive.proofs.Refusals.{passed}
use Rattle.reason.specs.declared.Reason.TheVariants.{ShortRun, WrongOctet}
use Rattle.reason.specs.declared.Why.{Why}
use Rattle.reason.specs.declared.Why.TheVariants.{Open, Because}
use Rattle.reason.specs.Reasons.{right_ones, preamble_reason, reason_of, explain_start, explain_found, explain_checked, explained}

-- ---- right octets, k of which are passed

unfoldable pub right_from : List ℕ → List ℕ → ℕ → ℕ
right_from xs ys k = k + right_ones (drop k xs) (drop k ys)

pub right_start : (xs ys : List ℕ) → right_ones xs ys ≡ right_from xs ys 0
unfolding right_from
right_start xs ys = let e : right_ones xs ys ≡ 0 + right_ones xs ys = omega arith in e

module _ (xs ys : List ℕ) (k : ℕ) where
  pub right_turn : k < length xs → k < length ys → get_or xs k 0 ≡ get_or ys k 0 → right_from xs ys k ≡ right_from xs ys (k + 1)
  unfolding right_from right_ones
  right_turn h g e =
      rw (drop-cons xs k 0, drop-cons ys k 0, right_ones, eq-eqb (get_or xs k 0) (get_or ys k 0) e, add-one k)
      (let q : k + (1 + right_ones (drop (suc k) xs) (drop (suc k) ys)) ≡ suc k + right_ones (drop (suc k) xs) (drop (suc k) ys) = omega arith in q)

  pub right_stop : k < length xs → k < length ys → (get_or xs k 0 ≡ get_or ys k 0 → ⊥) → right_from xs ys k ≡ k
  unfolding right_from right_ones
  right_stop h g e =
      rw (drop-cons xs k 0, drop-cons ys k 0, right_ones, ne_eqb (get_or xs k 0) (get_or ys k 0) e) (let q : k + 0 ≡ k = omega arith in q)

ones_none : (xs : List ℕ) → right_ones xs [] ≡ 0
unfolding right_ones
ones_none [] = refl
ones_none (x ∷ xs) = refl

pub right_end : (xs ys : List ℕ) (k : ℕ) → length ys ≤ k → right_from xs ys k ≡ k
unfolding right_from
right_end xs ys k h =
    ap (λ (l : List ℕ). k + right_ones (drop k xs) l) (drop_of_length-le ys {i = k} h) ∙ ap (λ (n : ℕ). k + n) (ones_none (drop k xs)) ∙ omega arith

pub preamble-short : (at : ℕ) (run : List ℕ) → length run < preamble_size → preamble_reason at run ≡ ShortRun (length run)
unfolding preamble_reason
preamble-short at run h = rw (lt-ltb (length run) preamble_size h, preamble_reason)

pub preamble-long : (at : ℕ) (run : List ℕ) → preamble_size ≤ length run → preamble_reason at run ≡ WrongOctet (at + right_ones run preamble)
unfolding preamble_reason
preamble-long at run h = rw (le-ltb (length run) preamble_size h, preamble_reason)

-- ---- four octets, low octet first

pub low_four : (l : List ℕ) (e : ℕ)
    → low_first l e 4 ≡ get_or l e 0 + get_or l (e + 1) 0 * 0x100 + get_or l (e + 2) 0 * 0x1_0000 + get_or l (e + 3) 0 * 0x100_0000
unfolding low_first
low_four l e =
    let b : e + 1 + 1 ≡ e + 2 = omega arith in
    let c : e + 1 + 1 + 1 ≡ e + 3 = omega arith in
    let eb : get_or l (e + 1 + 1) 0 ≡ get_or l (e + 2) 0 = ap (λ (k : ℕ). get_or l k 0) b in
    let ec : get_or l (e + 1 + 1 + 1) 0 ≡ get_or l (e + 3) 0 = ap (λ (k : ℕ). get_or l k 0) c in
    omega arith

-- ---- the call, case by case

module _ (s : Settings) (job : ℕ) (es : List Entry) (os ms : List ℕ) (p : ℕ) where
  abbrev own : List (Option Address)
  own = mine job es

  pub explain_refused : (x : Refusal) → first (read_refusals s job es os ms p) ≡ Err x
      → explained s job es os ms p ≡ record { answer = Why.Refused x; start = p; next = p }
  unfolding explained explain_checked
  explain_refused x h = ap (λ (k : Checked). explain_checked k s own os ms p) h

  module _ (fine : first (read_refusals s job es os ms p) ≡ Ok tt) where
    goes_on : (f : Option ℕ) → find_start (capture os ms) p ≡ f → explained s job es os ms p ≡ explain_found s own (capture os ms) f
    unfolding explained explain_checked
    goes_on f h = ap (λ (k : Checked). explain_checked k s own os ms p) fine ∙ ap (explain_found s own (capture os ms)) h

    pub explain_none : find_start (capture os ms) p ≡ None
        → explained s job es os ms p ≡ record { answer = Why.Nothing; start = length os; next = length os }
    unfolding explain_found
    explain_none h =
        goes_on None h
        ∙ ap (λ (n : ℕ). record { answer = Why.Nothing; start = n; next = n }) (length-capture os ms (passed s job es os ms p fine).even)

    module _ (i : ℕ) (found : find_start (capture os ms) p ≡ Some i) where
      pub explain_open : find_control (capture os ms) (i + 1) ≡ None → explained s job es os ms p ≡ record { answer = Open; start = i; next = i }
      unfolding explain_found explain_start
      explain_open h = goes_on (Some i) found ∙ ap (explain_start s own i) (after_nothing os ms (i + 1) h)

      pub explain_ended : (e : ℕ) → find_control (capture os ms) (i + 1) ≡ Some e
          → let r = between os (i + 1) e in
          explained s job es os ms p ≡ record { answer = Because (reason_of s own i r (get_or os e 0)); start = i; next = i + 1 + length r }
      unfolding explain_found explain_start
      explain_ended e h = goes_on (Some i) found ∙ ap (explain_start s own i) (after_found os ms (passed s job es os ms p fine).even (i + 1) e h)
