-- What becomes of a plain frame, by the rules' own definitions: rules 1 to 4 and 6 to 10 do not hold of it, and so rule 5 decides (`plain_judged_lem`). And what
-- the code looks for. Assumes nothing.
use Rattle.std.specs.Prelude.{Option}
use Prim.Native.Nat.{ℕ, ◌+◌, ◌-◌, ◌*◌, ◌%◌, ◌≤◌, ◌<◌}
use native.Mathlib.Omega.{arith}
use mathlib.Core.Path.{◌≡◌, refl, sym, ap, ap₂, ◌∙◌}
use mathlib.Core.Bool.{Bool, true, false, not, ◌||◌, ◌&&◌, and-false, cond}
use mathlib.Core.List.{List, ◌++◌}
use lib.ListN.{length, get_or, take, drop, length-drop}
use lib.Seq.{take-add, drop_at, take_at, length-take-le, get_or-take, get_or-drop, drop-drop, ext_get_or}
use lib.Dec.{eqb, ltb}
use borrow.Author.Tests.{le-ltb, ltb-true, ltb-false, ne_eqb}
use Rattle.line.specs.Line.{preamble}
use Rattle.line.specs.Octets.{same_octets, high_first_at, low_first}
use Rattle.line.proofs.Octets.{same_octets-refl, high_first-drop}
use Rattle.line.proofs.Symbols.{by_test}
use Rattle.line.proofs.Tables.{first-here, first_next, first-other}
use Rattle.line.proofs.Words.{Octets, low_same}
use Rattle.station.specs.declared.Address.{Address}
use Rattle.station.specs.declared.Settings.{Settings}
use Rattle.station.specs.declared.Outcome.TheVariants.{Cut, BadPreamble, Undersized, Oversized, WrongFcs, WrongLength, Filtered, PauseTaken, PfcTaken, ControlDropped, HandedOut}
use Rattle.station.specs.Station.{is_group}
use Rattle.fields.specs.Fields.{destination, first_field, field_place, field}
use Rattle.fields.specs.Tags.{tag_count}
use Rattle.line.specs.Limits.{least_frame, most_tags}
use Rattle.fields.proofs.Tags.{run_none}
use Rattle.fcs.specs.Fcs.{fcs_of}
use Rattle.frame.specs.Frame.{undersized, over_limit, oversized, covered, wrong_fcs}
use Rattle.frame.specs.Length.{wrong_length}
use Rattle.frame.proofs.FrameLaws.{kept-type}
use Rattle.frame.proofs.Length.{length_right}
use Rattle.control.specs.Control.{is_control_frame, to_reserved_group, to_own, filtered, takes_pause, takes_pfc, drops_control}
use Rattle.control.proofs.Ways.{own_accepted}
use Rattle.outcome.specs.declared.Judged.{Judged}
use Rattle.outcome.specs.Outcomes.{bad_preamble, frame_of, outcomes, outcome, check_made, judged}
use Rattle.outcome.specs.Plain.{opening_of, Plain, plain_outcome, plain_judged}
use Rattle.outcome.proofs.Rules.{not-cut, told}

-- the check that goes with what becomes of it
plain_made : (run : List ℕ) → fcs_of (covered (frame_of run)) ≡ check_made (plain_outcome run) (frame_of run)
unfolding plain_outcome check_made
plain_made run = either (wrong_fcs (frame_of run))
  where
    either : (b : Bool) → fcs_of (covered (frame_of run)) ≡ check_made (cond b WrongFcs HandedOut) (frame_of run)
    either true = refl
    either false = refl

-- ---- the rules that do not hold

module _ (s : Settings) (own : List (Option Address)) (run : List ℕ) (by : ℕ) (p : Plain (opening_of s.own) s.limit run by) where
  abbrev f : List ℕ
  f = frame_of run

  -- the first thirteen octets are seven and six
  front : length (take 7 run) ≡ 7
  front = length-take-le 7 run (let l = p.long in omega arith)

  parts : take 7 run ++ take 6 (drop 7 run) ≡ preamble ++ s.own.0
  unfolding opening_of
  parts = sym (take-add 7 6 run) ∙ p.opens

  first_seven : take 7 run ≡ preamble
  unfolding preamble
  first_seven = sym (take_at (take 7 run) (take 6 (drop 7 run)) 7 front) ∙ ap (take 7) parts

  to_own_lem : destination f ≡ s.own.0
  unfolding preamble destination frame_of
  to_own_lem = sym (drop_at (take 7 run) (take 6 (drop 7 run)) 7 front) ∙ ap (drop 7) parts

  no_group : is_group s.own.0 ≡ false
  unfolding opening_of preamble
  no_group = p.single

  goes-own : to_own s f ≡ true
  unfolding to_own
  goes-own = ap (λ (d : List ℕ). same_octets d s.own.0) to_own_lem ∙ same_octets-refl s.own.0

  octets : length f + 7 ≡ length run
  unfolding frame_of
  octets = let l = p.long in omega (arith, length-drop 7 run)

  rule_2 : bad_preamble run ≡ false
  unfolding bad_preamble
  rule_2 =
      ap₂ (λ (a b : Bool). a || not b) (le-ltb (length run) 7 (let l = p.long in omega arith))
      (ap (λ (l : List ℕ). same_octets l preamble) first_seven ∙ same_octets-refl preamble)

  rule_3 : undersized f ≡ false
  unfolding undersized
  rule_3 = let l = p.long in let n = octets in le-ltb (length f) least_frame (omega arith)

  -- no tag: the limit is M, and the first field is the real one
  no_tag_lem : tag_count f ≡ 0
  unfolding tag_count first_field
  no_tag_lem = run_none f 12 most_tags p.ordinary.untagged

  rule_4 : oversized s.limit f ≡ false
  unfolding oversized over_limit
  rule_4 =
      let l = p.within in
      let n = octets in
      ap (λ (t : ℕ). ltb (s.limit + 4 * t) (length f)) no_tag_lem ∙ le-ltb (s.limit + 4 * 0) (length f) (omega arith)

  real_type : 1536 ≤ field f
  unfolding field field_place first_field
  real_type = rw no_tag_lem p.ordinary.type

  rule_6 : wrong_length s.checking f ≡ false
  rule_6 = length_right s.checking f (kept-type (tag_count f) (field f) _ real_type)

  rule_7 : filtered s own f ≡ false
  unfolding filtered
  rule_7 =
      let asked = not (is_control_frame f && (to_reserved_group f || to_own s f)) in
      ap (λ (b : Bool). asked && not b) (own_accepted s own f no_group goes-own) ∙ and-false asked

  no_control : is_control_frame f ≡ false
  unfolding is_control_frame
  no_control = ne_eqb (first_field f) 0x8808 p.ordinary.uncontrolled

  rule_8 : takes_pause s f ≡ false
  unfolding takes_pause
  rule_8 = rw no_control

  rule_9 : takes_pfc s f ≡ false
  unfolding takes_pfc
  rule_9 = rw no_control

  rule_10 : drops_control s f ≡ false
  unfolding drops_control
  rule_10 = rw no_control

  -- ---- so rule 5 decides

  pub plain_outcome_lem : outcome s own run by ≡ plain_outcome run
  unfolding outcome outcomes plain_outcome
  plain_outcome_lem =
      first_next Cut _ (not-cut by p.ended)
      ∙ first_next BadPreamble _ rule_2
      ∙ first_next Undersized _ rule_3
      ∙ first_next Oversized _ rule_4
      ∙ by_test (wrong_fcs f)
      (λ h. first-here WrongFcs _ h ∙ sym (ap (λ (b : Bool). cond b WrongFcs HandedOut) h))
      (λ h.
      first_next WrongFcs _ h
      ∙ first_next WrongLength _ rule_6
      ∙ first_next Filtered _ rule_7
      ∙ first_next PauseTaken _ rule_8
      ∙ first_next PfcTaken _ rule_9
      ∙ first_next ControlDropped _ rule_10
      ∙ first-other HandedOut
      ∙ sym (ap (λ (b : Bool). cond b WrongFcs HandedOut) h))

  pub plain_judged_lem : judged s own run by ≡ plain_judged run
  unfolding plain_judged
  plain_judged_lem = sym (told s own run by (plain_outcome run) _ (sym plain_outcome_lem) (plain_made run))

  pub plain_is : {j : Judged} → j ≡ plain_judged run → j ≡ judged s own run by
  plain_is e = e ∙ sym plain_judged_lem

-- ---- what the code looks for

-- two words that share three octets are thirteen octets
pub same_opening : (run want : List ℕ) → Octets run → Octets want → 13 ≤ length run → length want ≡ 13
    → low_first run 0 8 ≡ low_first want 0 8 → low_first run 5 8 ≡ low_first want 5 8 → take 13 run ≡ want
same_opening run want o u h e low high =
    let n : length (take 13 run) ≡ 13 = length-take-le 13 run h in
    ext_get_or 0 (take 13 run) want (n ∙ sym e)
    (λ k g. get_or-take 13 run k 0 (omega arith)
    ∙ by_test (ltb k 8)
    (λ t. let m = ltb-true k 8 t in word 0 low k k (omega arith) (omega arith))
    (λ t. let m = ltb-false k 8 t in word 5 high k (k - 5) (omega arith) (omega arith)))
  where
    word : (at : ℕ) → low_first run at 8 ≡ low_first want at 8 → (k j : ℕ) → at + j ≡ k → j < 8 → get_or run k 0 ≡ get_or want k 0
    word at w k j q g = ap (λ (i : ℕ). get_or run i 0) (sym q) ∙ low_same 8 run want o u at w j g ∙ ap (λ (i : ℕ). get_or want i 0) q

-- the first field of a run's frame, and the group bit behind an opening's preamble
pub field_of_run : (run : List ℕ) → high_first_at run 19 ≡ first_field (frame_of run)
unfolding first_field frame_of
field_of_run run =
    sym (high_first-drop run 19) ∙ ap (λ (l : List ℕ). high_first_at l 0) (sym (drop-drop 12 7 run)) ∙ high_first-drop (drop 7 run) 12

pub single_of : (want : List ℕ) → (get_or want 7 0 % 2 ≡ 1 → ⊥) → is_group (drop 7 want) ≡ false
unfolding is_group
single_of want h = ap (λ (o : ℕ). eqb (o % 2) 1) (get_or-drop 7 want 0 0) ∙ ne_eqb (get_or want 7 0 % 2) 1 h
