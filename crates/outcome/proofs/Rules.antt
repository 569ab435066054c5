-- Rules 1 and 2, a table row by row, and the table of outcomes in the steps that the code takes. Assumes nothing.
use Rattle.std.specs.Prelude.{None, Option, Some}
use Rattle.std.specs.Bool.{Decides}
use Prim.Native.Nat.{ℕ, zero, suc, ◌≤◌, ◌<◌}
use native.Mathlib.Omega.{arith}
use mathlib.Core.Path.{◌≡◌, refl, sym, ap, ap₂, ◌∙◌, subst}
use mathlib.Core.Bool.{Bool, true, false, not, ◌||◌, false≢true}
use Rattle.std.proofs.Math.Bool.{or-true}
use mathlib.Core.List.{List, []}
use lib.ListN.{length, take, drop_of_length-le}
use lib.Dec.{ltb}
use borrow.Author.Tests.{le-ltb, eq-eqb, ne_eqb}
use Rattle.line.specs.Limits.{preamble_size}
use Rattle.line.specs.Line.{preamble, terminate}
use Rattle.line.specs.Table.{Table, otherwise, ◌∣◌, ◌⇒◌, first}
use Rattle.line.proofs.Octets.{same_octets-refl, same_octets-not}
use Rattle.line.specs.Octets.{same_octets}
use Rattle.line.proofs.Tables.{first-here, first_next, first-other}
use Rattle.station.specs.declared.Address.{Address}
use Rattle.station.specs.declared.Settings.{Settings}
use Rattle.station.specs.declared.Outcome.{Outcome}
use Rattle.station.specs.declared.Outcome.TheVariants.{Cut, BadPreamble, Undersized, Oversized, WrongFcs, WrongLength, Filtered, PauseTaken, PfcTaken, ControlDropped, HandedOut}
use Rattle.fcs.specs.Fcs.{fcs_of}
use Rattle.fields.specs.declared.Layout.{Layout}
use Rattle.fields.specs.Places.{layout_of}
use Rattle.frame.specs.Frame.{undersized, oversized, covered, wrong_fcs}
use Rattle.frame.specs.Length.{wrong_length}
use Rattle.control.specs.Control.{filtered, takes_pause, takes_pfc, drops_control}
use Rattle.outcome.specs.declared.Judged.{Judged}
use Rattle.outcome.specs.Outcomes.{cut, bad_preamble, frame_of, outcomes, outcome, check_made, judged}
use Rattle.outcome.specs.Steps.{early_outcomes, late_outcomes}

-- ---- rule 1

pub cut_by : (by : ℕ) → (by ≡ terminate → ⊥) → cut by ≡ true
unfolding cut
cut_by by h = ap not (ne_eqb by terminate h)

pub not-cut : (by : ℕ) → by ≡ terminate → cut by ≡ false
unfolding cut
not-cut by h = ap not (eq-eqb by terminate h)

-- ---- rule 2

-- by one comparison with the first octets: what starts with the preamble is long enough
pub preamble_told : (r : List ℕ) (b : Bool) → (b ≡ true → preamble_size ≤ length r) → Decides b (preamble ≡ take preamble_size r) → not b ≡ bad_preamble r
unfolding bad_preamble
preamble_told r true l d =
    sym (ap₂ (λ (a b : Bool). a || not b) (le-ltb (length r) preamble_size (l refl))
    (ap (λ (f : List ℕ). same_octets f preamble) (sym (d.0 refl)) ∙ same_octets-refl preamble))
preamble_told r false l d =
    sym (ap (λ (b : Bool). ltb (length r) preamble_size || not b) (same_octets-not (take preamble_size r) preamble (λ q. false≢true (d.1 (sym q)))) ∙ or-true _)

-- ---- the frame of a run

pub frame-none : (r : List ℕ) → length r < preamble_size → frame_of r ≡ []
unfolding frame_of
frame-none r h = drop_of_length-le r {i = preamble_size} (omega arith)

-- ---- a table whose first n rows do not hold, and its next row, whose test the code answered by r

module _ {A : Type 0} where
  -- a table without its first n rows
  abbrev pub after : ℕ → Table A → Table A
  after zero t = t
  after (suc n) (otherwise a) = otherwise a
  after (suc n) (r ∣ rows) = after n rows

  pub row_holds_lem : {a : A} {b r : Bool} (x : A) (rows : Table A) → a ≡ first (b ⇒ x ∣ rows) → r ≡ b → r ≡ true → x ≡ a
  row_holds_lem x rows h e was = sym (h ∙ first-here x rows (sym e ∙ was))

  pub row_passed : {a : A} {b r : Bool} (x : A) (rows : Table A) → a ≡ first (b ⇒ x ∣ rows) → r ≡ b → r ≡ false → a ≡ first rows
  row_passed x rows h e was = h ∙ first_next x rows (sym e ∙ was)

-- ---- the table in steps: e decides as t does, or leaves the rows of k

record Agrees (e : Table (Option Outcome)) (t k : Table Outcome) : Type 0 where
  decided : (o : Outcome) → first e ≡ Some o → first t ≡ o
  framed : first e ≡ None → first t ≡ first k

agrees_end : (k : Table Outcome) → Agrees (otherwise None) k k
agrees_end k =
    record {
      decided = λ o h. let z : None ≡ Some o = sym (first-other None) ∙ h in let bad : ◌≡◌ {A = ℕ} 0 1 = cc in absurd (omega arith);
      framed = λ h. refl;
    }

agrees_row : (b : Bool) (o : Outcome) (e : Table (Option Outcome)) (t k : Table Outcome) → Agrees e t k → Agrees (b ⇒ Some o ∣ e) (b ⇒ o ∣ t) k
agrees_row true o e t k w =
    record {
      decided = λ p h. let z : Some o ≡ Some p = sym (first-here (Some o) e refl) ∙ h in let q : o ≡ p = cc in first-here o t refl ∙ q;
      framed = λ h. let z : Some o ≡ None = sym (first-here (Some o) e refl) ∙ h in let bad : ◌≡◌ {A = ℕ} 0 1 = cc in absurd (omega arith);
    }
agrees_row false o e t k w =
    record {
      decided = λ p h. first_next o t refl ∙ w.decided p (sym (first_next (Some o) e refl) ∙ h);
      framed = λ h. first_next o t refl ∙ w.framed (sym (first_next (Some o) e refl) ∙ h);
    }

module _ (s : Settings) (own : List (Option Address)) (run : List ℕ) (by : ℕ) where
  abbrev f : List ℕ
  f = frame_of run

  -- the rows that rules 1 to 3 leave
  abbrev pub late : Table Outcome
  late = oversized s.limit f ⇒ Oversized ∣ wrong_fcs f ⇒ WrongFcs ∣ late_outcomes s own f (layout_of f)

  agrees : Agrees (early_outcomes run by) (outcomes s own run by f) late
  unfolding early_outcomes outcomes late_outcomes wrong_length
  agrees =
      agrees_row (cut by) Cut _ _ late (agrees_row (bad_preamble run) BadPreamble _ _ late (agrees_row (undersized f) Undersized _ _ late (agrees_end late)))

  pub outcome_decided : (o : Outcome) → first (early_outcomes run by) ≡ Some o → outcome s own run by ≡ o
  unfolding outcome
  outcome_decided o h = agrees.decided o h

  pub outcome_framed : first (early_outcomes run by) ≡ None → outcome s own run by ≡ first late
  unfolding outcome
  outcome_framed h = agrees.framed h

-- ---- the check that was made: none where rules 1 to 4 decide, and one where a later rule does

module _ {A : Type 0} (P : A → Type 0) where
  -- P holds of all that a table can give
  unfoldable Gives : Table A → Type 0
  Gives (otherwise a) = P a
  Gives (r ∣ rows) = P r.gives × Gives rows

  gives_either : (b : Bool) (x y : A) → P x → P y → P (elim b [ true ↦ x | false ↦ y ])
  gives_either true x y p q = p
  gives_either false x y p q = q

  gives-first : (t : Table A) → Gives t → P (first t)
  unfolding Gives first
  gives-first (otherwise a) h = h
  gives-first (r ∣ rows) h = gives_either r.holds r.gives (first rows) h.0 (gives-first rows h.1)

-- what rules 1 to 3 leave made no check
abbrev NoneMade : List ℕ → Option Outcome → Type 0
NoneMade f (Some o) = 0 ≡ check_made o f
NoneMade f None = Unit {0}

pub early-made : (run : List ℕ) (by : ℕ) (o : Outcome) (f : List ℕ) → first (early_outcomes run by) ≡ Some o → 0 ≡ check_made o f
early-made run by o g h =
    subst (NoneMade g) h
    (gives-first (NoneMade g) (early_outcomes run by) (unfold Gives early_outcomes check_made in (refl, (refl, (refl, tt)))))

pub late-made : (s : Settings) (own : List (Option Address)) (f : List ℕ) (l : Layout) → fcs_of (covered f) ≡ check_made (first (late_outcomes s own f l)) f
late-made s own g l =
    gives-first (λ (o : Outcome). fcs_of (covered g) ≡ check_made o g) (late_outcomes s own g l)
    (unfold Gives late_outcomes check_made in (refl, (refl, (refl, (refl, (refl, refl))))))

pub none_made : (f : List ℕ) → 0 ≡ check_made Oversized f
unfolding check_made
none_made f = refl

pub wrong-made : (f : List ℕ) → fcs_of (covered f) ≡ check_made WrongFcs f
unfolding check_made
wrong-made f = refl

-- what is told is what is judged
pub told : (s : Settings) (own : List (Option Address)) (run : List ℕ) (by : ℕ) (o : Outcome) (n : ℕ) → o ≡ outcome s own run by → n ≡ check_made o (frame_of run)
    → ◌≡◌ {A = Judged} (record { outcome = o; check = n }) (judged s own run by)
unfolding judged
told s own run by o n e m =
    ap₂ (λ (p : Outcome) (k : ℕ). record { outcome = p; check = k }) e (m ∙ ap (λ (p : Outcome). check_made p (frame_of run)) e)

-- so of what is judged the outcome is the table's
pub judged-outcome : (s : Settings) (own : List (Option Address)) (run : List ℕ) (by : ℕ) {j : Judged} → j ≡ judged s own run by
    → j.outcome ≡ outcome s own run by
unfolding judged
judged-outcome s own run by e = ap (λ (k : Judged). k.outcome) e

-- ---- of the job's entries, the table asks rule 7 alone

pub outcome_alike : (s : Settings) (own own' : List (Option Address)) → ((f : List ℕ) → filtered s own f ≡ filtered s own' f) → (run : List ℕ) (by : ℕ)
    → outcome s own run by ≡ outcome s own' run by
unfolding outcome outcomes
outcome_alike s own own' same run by =
    let f = frame_of run in
    ap (λ (b : Bool).
    first (
    cut by ⇒ Cut
    ∣ bad_preamble run ⇒ BadPreamble
    ∣ undersized f ⇒ Undersized
    ∣ oversized s.limit f ⇒ Oversized
    ∣ wrong_fcs f ⇒ WrongFcs
    ∣ wrong_length s.checking f ⇒ WrongLength
    ∣ b ⇒ Filtered
    ∣ takes_pause s f ⇒ PauseTaken
    ∣ takes_pfc s f ⇒ PfcTaken
    ∣ drops_control s f ⇒ ControlDropped
    ∣ otherwise HandedOut
    ))
    (same f)
