-- One symbol more: the laws of the definitions that go through a list of symbols, one for each case of a test. Assumes nothing.
use Rattle.std.specs.Prelude.{Some}
use Prim.Native.Nat.{ℕ, ◌+◌}
use mathlib.Core.Path.{◌≡◌, refl, sym, ap, ◌∙◌}
use mathlib.Core.Bool.{Bool, true, false, not, ◌&&◌, and-false, false≢true}
use mathlib.Core.List.{List, [], ◌∷◌}
use lib.Dec.{eqb}
use borrow.Author.Tests.{eqb-true}
use Rattle.line.specs.Line.{Symbol, is_data, is_control, is_start, start, first_where, run, ending, after_start, met_starts, start_count}

-- a test is true or false
pub by_test {ℓ} : {P : Type ℓ} (b : Bool) → (b ≡ true → P) → (b ≡ false → P) → P
by_test true f g = f refl
by_test false f g = g refl

pub data_not-start : (x : Symbol) → is_data x ≡ true → is_start x ≡ false
unfolding is_start is_control
data_not-start x h = rw h

pub start-not_data : (x : Symbol) → is_start x ≡ true → is_data x ≡ false
start-not_data x h = by_test (is_data x) (λ d. d ∙ (sym h ∙ data_not-start x d)) (λ d. d)

pub start-octet : (x : Symbol) → is_start x ≡ true → x.octet ≡ start
unfolding is_start is_control
start-octet x h =
    by_test (eqb x.octet start) (λ e. eqb-true x.octet start e)
    (λ e. let z : false ≡ true = sym (and-false (not (is_data x))) ∙ ap (λ (b : Bool). not (is_data x) && b) (sym e) ∙ h in absurd (false≢true z))

pub met_start : (at : ℕ) (x : Symbol) (xs : List Symbol) → is_start x ≡ true → met_starts at (x ∷ xs) ≡ record { place = at; follows = after_start xs } ∷ met_starts (at + 1) xs
unfolding met_starts
met_start at x xs h = rw (h, met_starts)

pub met-other : (at : ℕ) (x : Symbol) (xs : List Symbol) → is_start x ≡ false → met_starts at (x ∷ xs) ≡ met_starts (at + 1) xs
unfolding met_starts
met-other at x xs h = rw (h, met_starts)

pub starts-start : (x : Symbol) (xs : List Symbol) → is_start x ≡ true → start_count (x ∷ xs) ≡ 1 + start_count xs
unfolding start_count
starts-start x xs h = rw (h, start_count)

pub starts_other : (x : Symbol) (xs : List Symbol) → is_start x ≡ false → start_count (x ∷ xs) ≡ start_count xs
unfolding start_count
starts_other x xs h = rw (h, start_count)

pub run_data : (x : Symbol) (xs : List Symbol) → is_data x ≡ true → run (x ∷ xs) ≡ x.octet ∷ run xs
unfolding run
run_data x xs h = rw (h, run)

pub run_control : (x : Symbol) (xs : List Symbol) → is_data x ≡ false → run (x ∷ xs) ≡ []
unfolding run
run_control x xs h = rw (h, run)

pub ending_data : (x : Symbol) (xs : List Symbol) → is_data x ≡ true → ending (x ∷ xs) ≡ ending xs
unfolding ending
ending_data x xs h = rw (h, ending)

pub ending_control : (x : Symbol) (xs : List Symbol) → is_data x ≡ false → ending (x ∷ xs) ≡ Some x
unfolding ending
ending_control x xs h = rw (h, ending)

pub where_here : (test : Symbol → Bool) (at : ℕ) (x : Symbol) (xs : List Symbol) → test x ≡ true → first_where test at (x ∷ xs) ≡ Some at
unfolding first_where
where_here test at x xs h = rw (h, first_where)

pub where_later : (test : Symbol → Bool) (at : ℕ) (x : Symbol) (xs : List Symbol) → test x ≡ false → first_where test at (x ∷ xs) ≡ first_where test (at + 1) xs
unfolding first_where
where_later test at x xs h = rw (h, first_where)
