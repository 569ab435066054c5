-- `outcome::after_fcs` meets its contract: each way out passes the rows that did not hold and stops at the one that did. Assumes nothing.
use Prim.Native.Nat.{ℕ}
use mathlib.Core.Path.{◌≡◌, refl, sym, ◌∙◌}
use Rattle.line.specs.Table.{first}
use Rattle.line.proofs.Tables.{first-other}
use Rattle.station.specs.declared.Outcome.TheVariants.{WrongLength, Filtered, PauseTaken, PfcTaken, ControlDropped, HandedOut}
use Rattle.fields.specs.Places.{laid_out}
use Rattle.table.specs.Entries.{own_entries}
use Rattle.outcome.specs.Steps.{late_outcomes}
use Rattle.outcome.proofs.Rules.{after, row_holds_lem, row_passed}
use Rattle.outcome.proofs.after_fcs.Goals as goal
use Rattle.outcome.proofs.after_fcs.Goals.{Else-drops_control, Else-filtered, Else-takes_pause, Else-takes_pfc, Else-wrong_length, Start}

abbrev past : ℕ → Start → Type 0
past n c = first ((let a = c.args in let f = a.f.now in late_outcomes a.s (own_entries a.job a.table.now) f (laid_out a.tags f))) ≡ first (after n ((let a = c.args in let f = a.f.now in late_outcomes a.s (own_entries a.job a.table.now) f (laid_out a.tags f))))

past-1 : (c : Else-wrong_length) → past 1 (goal.at.Else-wrong_length c).Start
unfolding late_outcomes
past-1 c = row_passed WrongLength _ refl c.wrong_length.ensures c.if-wrong_length.false

past-2 : (c : Else-filtered) → past 2 (goal.at.Else-filtered c).Start
unfolding late_outcomes
past-2 c = row_passed Filtered _ (past-1 (goal.at.Else-filtered c).Else-wrong_length) c.filtered.ensures c.if-filtered.false

past-3 : (c : Else-takes_pause) → past 3 (goal.at.Else-takes_pause c).Start
unfolding late_outcomes
past-3 c = row_passed PauseTaken _ (past-2 (goal.at.Else-takes_pause c).Else-filtered) c.takes_pause.ensures c.if-takes_pause.false

past-4 : (c : Else-takes_pfc) → past 4 (goal.at.Else-takes_pfc c).Start
unfolding late_outcomes
past-4 c = row_passed PfcTaken _ (past-3 (goal.at.Else-takes_pfc c).Else-takes_pause) c.takes_pfc.ensures c.if-takes_pfc.false

past-5 : (c : Else-drops_control) → past 5 (goal.at.Else-drops_control c).Start
unfolding late_outcomes
past-5 c = row_passed ControlDropped _ (past-4 (goal.at.Else-drops_control c).Else-takes_pfc) c.drops_control.ensures c.if-drops_control.false

pub returns-then-wrong_length : goal.returns-then-wrong_length
unfolding late_outcomes
returns-then-wrong_length c = row_holds_lem WrongLength _ refl c.wrong_length.ensures c.if-wrong_length.true

pub returns-then-filtered : goal.returns-then-filtered
unfolding late_outcomes
returns-then-filtered c = row_holds_lem Filtered _ (past-1 (goal.at.returns-then-filtered c).Else-wrong_length) c.filtered.ensures c.if-filtered.true

pub returns-then-takes_pause : goal.returns-then-takes_pause
unfolding late_outcomes
returns-then-takes_pause c = row_holds_lem PauseTaken _ (past-2 (goal.at.returns-then-takes_pause c).Else-filtered) c.takes_pause.ensures c.if-takes_pause.true

pub returns-then-takes_pfc : goal.returns-then-takes_pfc
unfolding late_outcomes
returns-then-takes_pfc c = row_holds_lem PfcTaken _ (past-3 (goal.at.returns-then-takes_pfc c).Else-takes_pause) c.takes_pfc.ensures c.if-takes_pfc.true

pub returns-then-drops_control : goal.returns-then-drops_control
unfolding late_outcomes
returns-then-drops_control c = row_holds_lem ControlDropped _ (past-4 (goal.at.returns-then-drops_control c).Else-takes_pfc) c.drops_control.ensures c.if-drops_control.true

pub returns : goal.returns
unfolding late_outcomes
returns c = sym (past-5 c ∙ first-other HandedOut)
