-- Every Start in its order, and the run after it: what the walk and the seam between two stretches of line are proved by. Assumes nothing.
use Rattle.std.specs.Prelude.{Option, Some, None}
use Prim.Native.Nat.{ℕ, suc, ◌+◌, ◌≤◌, ◌<◌}
use native.Mathlib.Omega.{arith}
use native.Mathlib.Nat.{add-zero}
use mathlib.Core.Path.{◌≡◌, refl, sym, ap, ap₂, ◌∙◌}
use mathlib.Core.Bool.{Bool, true}
use mathlib.Core.List.{List, [], ◌∷◌, ◌++◌, map}
use lib.ListN.{length, drop}
use lib.Seq.{drop-drop}
use Rattle.line.specs.Line.{Symbol, as_data, as_control, is_data, is_control, is_start, first_where, run, ending, ended, ended_by, after_start, met_starts, start_count}
use Rattle.line.proofs.Symbols.{by_test, data_not-start, met_start, met-other, starts-start, starts_other, run_data, run_control, ending_data, ending_control, where_here, where_later}

-- ---- the walk, Start by Start

-- a walk meets each Start symbol once
pub met-starts : (at : ℕ) (c : List Symbol) → length (met_starts at c) ≡ start_count c
unfolding met_starts start_count
met-starts at [] = refl
met-starts at (x ∷ xs) =
    let ih = met-starts (at + 1) xs in
    by_test (is_start x)
    (λ h. ap length (met_start at x xs h) ∙ ap suc ih ∙ sym (starts-start x xs h ∙ omega arith))
    (λ h. ap length (met-other at x xs h) ∙ ih ∙ sym (starts_other x xs h))

-- a run holds no Start: a walk may go on right after the Start, or at the symbol that ends the run
pub skip_run : (at : ℕ) (l : List Symbol) → met_starts at l ≡ met_starts (at + length (run l)) (drop (length (run l)) l)
unfolding run met_starts
skip_run at [] = refl
skip_run at (x ∷ xs) =
    let ih = skip_run (at + 1) xs in
    by_test (is_data x)
    (λ h. met-other at x xs (data_not-start x h) ∙ ih
    ∙ ap (λ (n : ℕ). met_starts n (drop (length (run xs)) xs)) (omega arith)
    ∙ ap (λ (r : List ℕ). met_starts (at + length r) (drop (length r) (x ∷ xs))) (sym (run_data x xs h)))
    (λ h. sym (ap (λ (r : List ℕ). met_starts (at + length r) (drop (length r) (x ∷ xs))) (run_control x xs h)
    ∙ ap (λ (n : ℕ). met_starts n (x ∷ xs)) (add-zero at)))

-- with no control symbol there is no Start
pub open_none : (at : ℕ) (l : List Symbol) → ending l ≡ None → met_starts at l ≡ []
unfolding met_starts
open_none at [] e = refl
open_none at (x ∷ xs) e =
    by_test (is_data x)
    (λ h. met-other at x xs (data_not-start x h) ∙ open_none (at + 1) xs (sym (ending_data x xs h) ∙ e))
    (λ h. let z : ◌≡◌ {A = Option Symbol} (Some x) None = sym (ending_control x xs h) ∙ e in let bad : ◌≡◌ {A = ℕ} 0 1 = cc in absurd (omega arith))

-- what follows a place in a capture
pub drop-next {ℓ} : {A : Type ℓ} (p : ℕ) (c : List A) (x : A) (xs : List A) → drop p c ≡ x ∷ xs → drop (p + 1) c ≡ xs
drop-next p c x xs e = sym (drop-drop 1 p c) ∙ ap (drop 1) e

-- the search and the walk: no Start, and the first one
pub met-nothing : (p : ℕ) (l : List Symbol) → first_where is_start p l ≡ None → met_starts p l ≡ []
unfolding met_starts
met-nothing p [] e = refl
met-nothing p (x ∷ xs) e =
    by_test (is_start x)
    (λ h. let z : Some p ≡ None = sym (where_here is_start p x xs h) ∙ e in let bad : ◌≡◌ {A = ℕ} 0 1 = cc in absurd (omega arith))
    (λ h. met-other p x xs h ∙ met-nothing (p + 1) xs (sym (where_later is_start p x xs h) ∙ e))

pub met_found : (c : List Symbol) (p : ℕ) (l : List Symbol) (i : ℕ) → drop p c ≡ l → first_where is_start p l ≡ Some i
    → met_starts p l ≡ record { place = i; follows = after_start (drop (i + 1) c) } ∷ met_starts (i + 1) (drop (i + 1) c)
unfolding first_where
met_found c p [] i d e = let z : None ≡ Some i = refl ∙ e in let bad : ◌≡◌ {A = ℕ} 0 1 = cc in absurd (omega arith)
met_found c p (x ∷ xs) i d e =
    let d' : drop (p + 1) c ≡ xs = drop-next p c x xs d in
    by_test (is_start x)
    (λ h. let z : Some p ≡ Some i = sym (where_here is_start p x xs h) ∙ e in
    let q : p ≡ i = cc in
    met_start p x xs h
    ∙ ap (λ (t : List Symbol). record { place = p; follows = after_start t } ∷ met_starts (p + 1) t) (sym d')
    ∙ ap (λ (n : ℕ). record { place = n; follows = after_start (drop (n + 1) c) } ∷ met_starts (n + 1) (drop (n + 1) c)) q)
    (λ h. met-other p x xs h ∙ met_found c (p + 1) xs i d' (sym (where_later is_start p x xs h) ∙ e))

-- where a search ended, and where a run did: inside what was looked through
pub where_range : (test : Symbol → Bool) (at : ℕ) (l : List Symbol) (i : ℕ) → first_where test at l ≡ Some i → (at ≤ i) × (i < at + length l)
unfolding first_where
where_range test at [] i e = let z : None ≡ Some i = refl ∙ e in let bad : ◌≡◌ {A = ℕ} 0 1 = cc in absurd (omega arith)
where_range test at (x ∷ xs) i e =
    by_test (test x)
    (λ h. let z : Some at ≡ Some i = sym (where_here test at x xs h) ∙ e in let q : at ≡ i = cc in (omega arith, omega arith))
    (λ h. let ih = where_range test (at + 1) xs i (sym (where_later test at x xs h) ∙ e) in (omega arith, omega arith))

pub ending-inside : (l : List Symbol) (y : Symbol) → ending l ≡ Some y → length (run l) < length l
unfolding ending
ending-inside [] y e = let bad : ◌≡◌ {A = ℕ} 0 1 = cc in absurd (omega arith)
ending-inside (x ∷ xs) y e =
    by_test (is_data x)
    (λ h. let ih = ending-inside xs y (sym (ending_data x xs h) ∙ e) in let k = ap length (run_data x xs h) in omega arith)
    (λ h. let k = ap length (run_control x xs h) in omega arith)

-- ---- a seam: what stands before a Start, or before the end

-- the end of the line, or a Start
unfoldable pub Begins : List Symbol → Type 0
Begins [] = Unit {0}
Begins (y ∷ ys) = is_start y ≡ true

-- a run that is ended goes on no further
pub run-ended : (xs ys : List Symbol) (e : Symbol) → ending xs ≡ Some e → (run (xs ++ ys) ≡ run xs) × (ending (xs ++ ys) ≡ Some e)
unfolding ending
run-ended [] ys e h = let bad : ◌≡◌ {A = ℕ} 0 1 = cc in absurd (omega arith)
run-ended (x ∷ xs) ys e h =
    by_test (is_data x)
    (λ d. let ih = run-ended xs ys e (sym (ending_data x xs d) ∙ h) in
    (run_data x (xs ++ ys) d ∙ ap (λ (t : List ℕ). x.octet ∷ t) ih.0 ∙ sym (run_data x xs d), ending_data x (xs ++ ys) d ∙ ih.1))
    (λ d. (run_control x (xs ++ ys) d ∙ sym (run_control x xs d), ending_control x (xs ++ ys) d ∙ sym (ending_control x xs d) ∙ h))

-- one that is not ended is ended by what comes after
pub run_open : (xs ys : List Symbol) → ending xs ≡ None → ending (xs ++ ys) ≡ ending ys
unfolding ending
run_open [] ys h = refl
run_open (x ∷ xs) ys h =
    by_test (is_data x)
    (λ d. ending_data x (xs ++ ys) d ∙ run_open xs ys (sym (ending_data x xs d) ∙ h))
    (λ d. let z : ◌≡◌ {A = Option Symbol} (Some x) None = sym (ending_control x xs d) ∙ h in let bad : ◌≡◌ {A = ℕ} 0 1 = cc in absurd (omega arith))

-- ---- data symbols in a row

run-frame : (os : List ℕ) (y : ℕ) (zs : List Symbol) → run (map as_data os ++ (as_control y ∷ zs)) ≡ os
unfolding run is_data as_data as_control
run-frame [] y zs = refl
run-frame (o ∷ os) y zs = ap (λ (t : List ℕ). o ∷ t) (run-frame os y zs)

ending-frame : (os : List ℕ) (y : ℕ) (zs : List Symbol) → ending (map as_data os ++ (as_control y ∷ zs)) ≡ Some (as_control y)
unfolding ending is_data as_data as_control
ending-frame [] y zs = refl
ending-frame (o ∷ os) y zs = ending-frame os y zs

pub look_frame : (os : List ℕ) (y : ℕ) (zs : List Symbol) → after_start (map as_data os ++ (as_control y ∷ zs)) ≡ ended os y
unfolding after_start ended_by as_control
look_frame os y zs = ap₂ ended_by (run-frame os y zs) (ending-frame os y zs)

pub met_data : (at : ℕ) (os : List ℕ) (zs : List Symbol) → met_starts at (map as_data os ++ zs) ≡ met_starts (at + length os) zs
unfolding met_starts is_start is_control is_data as_data
met_data at [] zs = ap (λ (n : ℕ). met_starts n zs) (sym (add-zero at))
met_data at (o ∷ os) zs = met_data (at + 1) os zs ∙ ap (λ (n : ℕ). met_starts n zs) (omega arith)
