-- `outcome::judge_plain` meets its contract: rule 5 decides. Assumes nothing.
use Prim.Native.Nat.{ℕ}
use mathlib.Core.Path.{◌≡◌, refl, sym, ap, ap₂, ◌∙◌}
use mathlib.Core.Bool.{Bool, not, cond}
use mathlib.Core.List.{List}
use Rattle.line.specs.Octets.{same_octets}
use Rattle.station.specs.declared.Outcome.{Outcome}
use Rattle.station.specs.declared.Outcome.TheVariants.{WrongFcs, HandedOut}
use Rattle.fcs.specs.Fcs.{fcs_of, fcs_octets}
use Rattle.frame.specs.Frame.{covered, last_four, wrong_fcs}
use Rattle.frame.proofs.Fcs.{wrong-by}
use Rattle.outcome.specs.declared.Judged.{Judged}
use Rattle.outcome.specs.Outcomes.{frame_of}
use Rattle.outcome.specs.Plain.{plain_outcome, plain_judged}
use Rattle.outcome.proofs.judge_plain.Goals as goal
use Rattle.outcome.proofs.judge_plain.Goals.{After-differs}

check-is : (c : After-differs) → c.check_of-check.result ≡ fcs_of (covered ((frame_of c.args.run.now)))
check-is c = c.check_of-check.ensures ∙ ap (λ (f : List ℕ). fcs_of (covered f)) c.frame_of-f.ensures

fcs-is : (c : After-differs) → c.differs.result ≡ wrong_fcs ((frame_of c.args.run.now))
fcs-is c =
    c.differs.ensures
    ∙ ap (λ (f : List ℕ). not (same_octets (last_four f) (fcs_octets c.check_of-check.result))) c.frame_of-f.ensures
    ∙ wrong-by ((frame_of c.args.run.now)) _ (check-is c)

-- what is told by what the test of the FCS said
told : (c : After-differs) (o : Outcome) (b : Bool) → c.differs.result ≡ b → cond b WrongFcs HandedOut ≡ o
    → ◌≡◌ {A = Judged} (record { outcome = o; check = c.check_of-check.result }) (plain_judged c.args.run.now)
unfolding plain_judged plain_outcome
told c o b e h =
    ap₂ (λ (p : Outcome) (n : ℕ). record { outcome = p; check = n })
    (sym h ∙ ap (λ (t : Bool). cond t WrongFcs HandedOut) (sym e ∙ fcs-is c)) (check-is c)

pub returns-then-differs : goal.returns-then-differs
returns-then-differs c = told (goal.at.returns-then-differs c).After-differs _ _ c.if-differs.true refl

pub returns : goal.returns
returns c = told (goal.at.returns c).After-differs _ _ c.if-differs.false refl
