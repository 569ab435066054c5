-- What a walk hands out of two stretches of line, the second of which begins with a Start. Assumes nothing.
use Rattle.std.specs.Prelude.{None, Option, Some}
use Prim.Native.Nat.{ℕ, suc, ◌+◌}
use native.Mathlib.Omega.{arith}
use native.Mathlib.Nat.{add-zero}
use mathlib.Core.Path.{◌≡◌, refl, sym, ap, ap₂, ◌∙◌}
use mathlib.Core.List.{List, [], ◌∷◌, ◌++◌, append_assoc}
use lib.ListN.{length}
use Rattle.line.specs.Line.{Symbol, is_start, start, run, ending, ended, ended_by, after_start, MetStart, met_starts}
use Rattle.line.specs.Table.{first}
use Rattle.line.proofs.Symbols.{by_test, met_start, met-other, start-not_data, start-octet, ending_control}
use Rattle.line.proofs.Starts.{run-ended, run_open, Begins}
use Rattle.station.specs.declared.Address.{Address}
use Rattle.station.specs.declared.Settings.{Settings}
use Rattle.outcome.specs.Outcomes.{cut, outcomes, outcome}
use Rattle.mac.proofs.Clients.{data_handed, clients}

-- a run that a Start ends is cut, and hands out nothing
cut-nothing : (s : Settings) (own : List (Option Address)) (r : List ℕ) → data_handed s own (ended r start) ≡ []
unfolding data_handed outcome outcomes cut first
cut-nothing s own r = refl

module _ (s : Settings) (own : List (Option Address)) where
  -- what a Start hands out does not change when the line goes on with a Start
  same-run : (xs ys : List Symbol) → Begins ys → (e : Option Symbol) → ending xs ≡ e
      → data_handed s own (after_start (xs ++ ys)) ≡ data_handed s own (ended_by (run xs) e)
  unfolding after_start ended_by data_handed ending Begins
  same-run xs ys b (Some y) h =
      let k = run-ended xs ys y h in
      ap₂ (λ (r : List ℕ) (o : Option Symbol). data_handed s own (ended_by r o)) k.0 k.1
  same-run xs [] b None h = ap (λ (o : Option Symbol). data_handed s own (ended_by (run (xs ++ [])) o)) (run_open xs [] h)
  same-run xs (y ∷ ys) b None h =
      ap (λ (o : Option Symbol). data_handed s own (ended_by (run (xs ++ y ∷ ys)) o))
      (run_open xs (y ∷ ys) h ∙ ending_control y ys (start-not_data y b))
      ∙ ap (λ (o : ℕ). data_handed s own (ended (run (xs ++ y ∷ ys)) o)) (start-octet y b)
      ∙ cut-nothing s own (run (xs ++ y ∷ ys))

  -- the first stretch hands out what it does by itself, and then the second what it does
  pub seam : (at : ℕ) (xs ys : List Symbol) → Begins ys
      → clients s own (met_starts at (xs ++ ys)) ≡ clients s own (met_starts at xs) ++ clients s own (met_starts (at + length xs) ys)
  unfolding clients met_starts after_start
  seam at [] ys b = ap (λ (n : ℕ). clients s own (met_starts n ys)) (sym (add-zero at))
  seam at (x ∷ xs) ys b =
      let ih : clients s own (met_starts (at + 1) (xs ++ ys)) ≡ clients s own (met_starts (at + 1) xs) ++ clients s own (met_starts (at + suc (length xs)) ys) =
      seam (at + 1) xs ys b ∙ ap (λ (n : ℕ). clients s own (met_starts (at + 1) xs) ++ clients s own (met_starts n ys)) (omega arith) in
      by_test (is_start x)
      (λ h. ap (clients s own) (met_start at x (xs ++ ys) h)
      ∙ ap₂ (λ (a b : List (List ℕ)). a ++ b) (same-run xs ys b (ending xs) refl) ih
      ∙ sym (append_assoc (data_handed s own (after_start xs)) (clients s own (met_starts (at + 1) xs)) (clients s own (met_starts (at + suc (length xs)) ys)))
      ∙ ap (λ (ms : List MetStart). clients s own ms ++ clients s own (met_starts (at + suc (length xs)) ys)) (sym (met_start at x xs h)))
      (λ h. ap (clients s own) (met-other at x (xs ++ ys) h) ∙ ih
      ∙ ap (λ (ms : List MetStart). clients s own ms ++ clients s own (met_starts (at + suc (length xs)) ys)) (sym (met-other at x xs h)))

  -- the place of the first symbol does not matter to what is handed out
  pub anywhere : (at to : ℕ) (l : List Symbol) → clients s own (met_starts at l) ≡ clients s own (met_starts to l)
  unfolding clients met_starts
  anywhere at to [] = refl
  anywhere at to (x ∷ xs) =
      let ih = anywhere (at + 1) (to + 1) xs in
      by_test (is_start x)
      (λ h. ap (clients s own) (met_start at x xs h)
      ∙ ap (λ (t : List (List ℕ)). data_handed s own (after_start xs) ++ t) ih
      ∙ sym (ap (clients s own) (met_start to x xs h)))
      (λ h. ap (clients s own) (met-other at x xs h) ∙ ih ∙ sym (ap (clients s own) (met-other to x xs h)))
