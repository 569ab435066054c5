-- `outcome::judge` meets its contract: the table in steps. Assumes nothing.
use Prim.Native.Nat.{ℕ}
use mathlib.Core.Path.{◌≡◌, sym, ap, ap₂, ◌∙◌}
use mathlib.Core.List.{List}
use lib.ListN.{length}
use Rattle.line.specs.Table.{first}
use Rattle.station.specs.declared.Outcome.{Outcome}
use Rattle.station.specs.declared.Outcome.TheVariants.{Oversized, WrongFcs}
use Rattle.fields.specs.declared.Layout.{Layout}
use Rattle.fields.specs.Tags.{tag_count}
use Rattle.fields.specs.Places.{laid_out, layout_of}
use Rattle.fields.proofs.Places.{laid_own}
use Rattle.fcs.specs.Fcs.{fcs_of, fcs_octets}
use Rattle.line.specs.Octets.{same_octets}
use mathlib.Core.Bool.{not}
use Rattle.table.specs.Entries.{own_entries}
use Rattle.frame.proofs.Fcs.{wrong-by}
use Rattle.frame.specs.Frame.{over_limit, oversized, covered, last_four, wrong_fcs}
use Rattle.outcome.specs.Outcomes.{frame_of, outcome, check_made}
use Rattle.outcome.specs.Steps.{late_outcomes}
use Rattle.outcome.proofs.Rules.{after, late, outcome_decided, outcome_framed, row_holds_lem, row_passed, told, early-made, late-made, none_made, wrong-made}
use Rattle.outcome.proofs.judge.Goals as goal
use Rattle.outcome.proofs.judge.Goals.{After-differs, After-oversized, After-tag_count-tags, Else-differs, Else-oversized, In_default}

abbrev past : ℕ → In_default → Type 0
past n c = let a = c.args in outcome a.s ((let a = c.args in own_entries a.job a.table.now)) a.run.now a.by ≡ first (after n ((let a = c.args in late a.s ((let a = c.args in own_entries a.job a.table.now)) a.run.now a.by)))

-- what is found is that frame and its tags
frame_is : (c : After-tag_count-tags) → c.frame_of-f.result.now ≡ (frame_of c.args.run.now)
frame_is c = c.frame_of-f.ensures

tags_are : (c : After-tag_count-tags) → c.tag_count-tags.result ≡ tag_count ((frame_of c.args.run.now))
tags_are c = c.tag_count-tags.ensures ∙ ap tag_count (frame_is c)

-- and what rules 4 and 5 say is said of them
limit_is : (c : After-oversized) → c.oversized.result ≡ oversized c.args.s.limit ((frame_of c.args.run.now))
unfolding oversized
limit_is c = c.oversized.ensures ∙ ap₂ (over_limit _) (tags_are (goal.at.After-oversized c).After-tag_count-tags) (ap length (frame_is (goal.at.After-oversized c).After-tag_count-tags))

check-is : (c : After-differs) → c.check_of-check.result ≡ fcs_of (covered ((frame_of c.args.run.now)))
check-is c = c.check_of-check.ensures ∙ ap (λ (f : List ℕ). fcs_of (covered f)) (frame_is (goal.at.After-differs c).After-tag_count-tags)

fcs-is : (c : After-differs) → c.differs.result ≡ wrong_fcs ((frame_of c.args.run.now))
fcs-is c =
    c.differs.ensures
    ∙ ap (λ (f : List ℕ). not (same_octets (last_four f) (fcs_octets c.check_of-check.result))) (frame_is (goal.at.After-differs c).After-tag_count-tags)
    ∙ wrong-by ((frame_of c.args.run.now)) _ (check-is c)

past-0 : (c : In_default) → past 0 c
past-0 c = outcome_framed _ _ _ _ (sym c.before_tags.ensures ∙ c.in_default.is)

past-1 : (c : Else-oversized) → past 1 (goal.at.Else-oversized c).In_default
past-1 c = row_passed Oversized _ (past-0 (goal.at.Else-oversized c).In_default) (limit_is (goal.at.Else-oversized c).After-oversized) c.if-oversized.false

past-2 : (c : Else-differs) → past 2 (goal.at.Else-differs c).In_default
past-2 c = row_passed WrongFcs _ (past-1 (goal.at.Else-differs c).Else-oversized) (fcs-is (goal.at.Else-differs c).After-differs) c.if-differs.false

pub returns-in-Some : goal.returns-in-Some
returns-in-Some c =
    let e = sym c.before_tags.ensures ∙ c.in-Some.is in
    told _ _ _ _ _ _ (sym (outcome_decided _ _ _ _ _ e)) (early-made _ _ _ _ e)

pub returns-then-oversized : goal.returns-then-oversized
returns-then-oversized c =
    told _ _ _ _ _ _ (row_holds_lem Oversized _ (past-0 (goal.at.returns-then-oversized c).In_default) (limit_is (goal.at.returns-then-oversized c).After-oversized) c.if-oversized.true) (none_made _)

pub returns-then-differs : goal.returns-then-differs
returns-then-differs c =
    told _ _ _ _ _ _ (row_holds_lem WrongFcs _ (past-1 (goal.at.returns-then-differs c).Else-oversized) (fcs-is (goal.at.returns-then-differs c).After-differs) c.if-differs.true) (check-is (goal.at.returns-then-differs c).After-differs ∙ wrong-made _)

pub returns : goal.returns
returns c =
    let d = c in
    let p = d in
    let s = p.args.s in
    let es = (let a = p.args in own_entries a.job a.table.now) in
    let late : c.after_fcs.result ≡ first (late_outcomes s es ((frame_of p.args.run.now)) (layout_of ((frame_of p.args.run.now)))) =
    c.after_fcs.ensures
    ∙ ap₂ (λ (f : List ℕ) (n : ℕ). first (late_outcomes s es f (laid_out n f))) (frame_is (goal.at.returns p).After-tag_count-tags) (tags_are (goal.at.returns p).After-tag_count-tags)
    ∙ ap (λ (l : Layout). first (late_outcomes s es ((frame_of p.args.run.now)) l)) (laid_own ((frame_of p.args.run.now)))
    in
    told _ _ _ _ _ _ (late ∙ sym (past-2 (goal.at.returns c).Else-differs))
    (check-is (goal.at.returns d).After-differs ∙ late-made s es ((frame_of p.args.run.now)) (layout_of ((frame_of p.args.run.now))) ∙ ap (λ (o : Outcome). check_made o ((frame_of p.args.run.now))) (sym late))
