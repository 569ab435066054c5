-- A search over the two buffers: what one turn of a loop uses, and what a caller learns of the place found. Assumes nothing.
use Rattle.std.specs.Prelude.{Option, Some, None}
use Prim.Native.Nat.{ℕ, zero, suc, ◌+◌, ◌≤◌, ◌<◌}
use native.Mathlib.Omega.{arith}
use mathlib.Core.Path.{◌≡◌, refl, ap, ap₂, ◌∙◌}
use mathlib.Core.Bool.{Bool, true, false, not, ◌&&◌, and-false}
use mathlib.Core.List.{List}
use lib.ListN.{length, drop}
use lib.Dec.{eqb}
use borrow.Author.Tests.{eq-eqb, ne_eqb}
use Rattle.line.specs.Line.{Symbol, capture, is_data, is_control, is_start, start, first_where}
use Rattle.line.proofs.Symbols.{where_here, where_later}
use Rattle.line.proofs.Buffers.{symbol_at, capture-at, capture-end-octets, capture-end-marks}

module _ (test : Symbol → Bool) (os ms : List ℕ) where
  -- the search from a place on
  abbrev pub from : ℕ → Option ℕ
  from i = first_where test i (drop i (capture os ms))

  -- found there, gone on with at the next place, or at its end
  pub search_here : (i : ℕ) → i < length os → i < length ms → test (symbol_at os ms i) ≡ true → from i ≡ Some i
  search_here i h g t = ap (first_where test i) (capture-at os ms i h g) ∙ where_here test i (symbol_at os ms i) (drop (i + 1) (capture os ms)) t

  pub search_on : (i : ℕ) → i < length os → i < length ms → test (symbol_at os ms i) ≡ false → from i ≡ from (i + 1)
  search_on i h g t = ap (first_where test i) (capture-at os ms i h g) ∙ where_later test i (symbol_at os ms i) (drop (i + 1) (capture os ms)) t

  pub search_end-octets : (i : ℕ) → length os ≤ i → from i ≡ None
  search_end-octets i h = ap (first_where test i) (capture-end-octets os ms i h) ∙ (unfold first_where in refl)

  pub search_end-marks : (i : ℕ) → length ms ≤ i → from i ≡ None
  search_end-marks i h = ap (first_where test i) (capture-end-marks os ms i h) ∙ (unfold first_where in refl)

  -- a run of n places without it is passed at once
  pub search_skip : (n i : ℕ) → i + n ≤ length os → i + n ≤ length ms → ((k : ℕ) → k < n → test (symbol_at os ms (i + k)) ≡ false) → from i ≡ from (i + n)
  search_skip zero i h g f = ap from (let e : i ≡ i + 0 = omega arith in e)
  search_skip (suc n) i h g f =
      search_skip n i (omega arith) (omega arith) (λ k l. f k (omega arith))
      ∙ search_on (i + n) (omega arith) (omega arith) (f n (omega arith))
      ∙ ap from (let e : i + n + 1 ≡ i + suc n = omega arith in e)

-- the code's two tests of a symbol
pub control_tests : (x : Symbol) → (x.mark ≡ 0 → ⊥) → is_control x ≡ true
unfolding is_control is_data
control_tests x h = ap not (ne_eqb x.mark 0 h)

pub data_tests : (x : Symbol) → x.mark ≡ 0 → is_control x ≡ false
unfolding is_control is_data
data_tests x h = ap not (eq-eqb x.mark 0 h)

pub start-tests : (x : Symbol) → (x.mark ≡ 0 → ⊥) → x.octet ≡ start → is_start x ≡ true
unfolding is_start
start-tests x h g = ap₂ ◌&&◌ (control_tests x h) (eq-eqb x.octet start g)

pub no_start_data : (x : Symbol) → x.mark ≡ 0 → is_start x ≡ false
unfolding is_start
no_start_data x h = ap (λ (b : Bool). b && eqb x.octet start) (data_tests x h)

pub no_start-octet : (x : Symbol) → (x.octet ≡ start → ⊥) → is_start x ≡ false
unfolding is_start
no_start-octet x g = ap (λ (b : Bool). is_control x && b) (ne_eqb x.octet start g) ∙ and-false (is_control x)
