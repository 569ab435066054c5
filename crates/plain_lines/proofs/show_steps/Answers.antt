-- `show_steps` meets its contract: with the lines of the symbols left, the output is whole. Assumes nothing.
use native.Mathlib.Omega.{arith}
use mathlib.Core.Path.{◌≡◌, refl, sym, ap, ap₂, ◌∙◌}
use mathlib.Core.Bool.{Bool, true, false, cond}
use mir.Val.{bool_byte}
use mathlib.Core.List.{List}
use Prim.Native.Nat.{ℕ, ◌+◌, ◌*◌, ◌≤◌, ◌<◌}
use lib.ListN.{length}
use Rattle.line.specs.Limits.{most_records}
use Rattle.station.specs.declared.Settings.{Settings}
use Rattle.station.specs.Station.{fresh}
use Rattle.table.specs.Entries.{entries_of}
use Rattle.plain.specs.declared.Plain.{Plain}
use Rattle.plain.specs.Plain.{fresh_plain}
use Rattle.plain.specs.Fed.{plain_readings}
use Rattle.printing.specs.Lines.{program_settings, last_line, lines_of}
use Rattle.printing.proofs.Shows.{left-start, left_more, left-last}
use Rattle.printing.proofs.Records.{good_short}
use Rattle.plain_lines.proofs.Laws.{symbols_from, lines_quiet, lines_counted, lines_refused, lines_end, lines_all}
use Rattle.plain_lines.proofs.show_steps.Goals as goal
use Rattle.plain_lines.proofs.show_steps.Goals.{At-loop-k, in-Quiet, in-Counted}

as_number : (b : Bool) → cond b 1 0 ≡ bool_byte b
as_number true = refl
as_number false = refl

-- the input is short
short : (c : At-loop-k) → length c.args.input.now ≤ 2 * most_records
short c = good_short c.args.input.now c.requires

-- so that a line more is within what all of them take
room : (c : At-loop-k) → c.loop-k.at + 84 ≤ 2752680
room c = let h = short c in let i = c.loop-k.invariant in omega arith

pub loop-k-init : goal.loop-k-init
loop-k-init c =
    let l = c.args.input.now in (
      omega arith,
      omega arith,
      left-start
          (ap₂ (λ (set : Settings) (p : Plain). lines_of 0 (plain_readings set 0 (entries_of c.empty-none.result) p (symbols_from 0 l)))
          c.settings-s.ensures
          (c.fresh-p.ensures ∙ ap fresh_plain c.fresh_state.ensures)
          ∙ ap (λ (t : List ℕ). lines_of 0 (plain_readings program_settings 0 (entries_of t) (fresh_plain fresh) (symbols_from 0 l))) c.empty-none.ensures
          ∙ lines_all l c.requires),
    )

pub show_last-requires : goal.show_last-requires
show_last-requires c = let h = room (goal.at.show_last-requires c).At-loop-k in omega arith

pub returns-in-Refused : goal.returns-in-Refused
returns-in-Refused c =
    let p = c.show_last.ensures in
    let h = room (goal.at.returns-in-Refused c).At-loop-k in
    let more : 2 * c.loop-k.k + 1 < length c.args.input.now = omega arith in
    record {
      shown = left-last c.loop-k.invariant.2 p.shown (lines_refused _ _ _ _ _ _ _ more _ c.take_symbol-step.ensures _ c.in-Refused.is);
      upper_bound = omega (arith, p.upper_bound);
    }

pub show_counted-at-requires : goal.show_counted-at-requires
show_counted-at-requires c = let h = room (goal.at.show_counted-at-requires c).At-loop-k in omega arith

pub overflow_add-n : goal.overflow_add-n
overflow_add-n c = let h = short (goal.at.overflow_add-n c).At-loop-k in omega arith

pub loop-k-preserved : goal.loop-k-preserved
loop-k-preserved c =
    let more : 2 * c.loop-k.k + 1 < length c.args.input.now = omega arith in
    let next : 2 * c.loop-k.k + 2 ≡ 2 * (c.loop-k.k + 1) = omega arith in
    elim c.match-told.branch [
      | in-Quiet w ↦
          rw (w.out-is, w.n-is, w.at-is) (
            omega arith,
            omega arith,
            rw next at (rw (lines_quiet _ _ _ _ _ _ _ more _ c.take_symbol-step.ensures w.in-Quiet.is) at c.loop-k.invariant.2),
          )
      | in-Counted w ↦
          let p = w.show_counted-at.ensures in
          rw (w.out-is, w.n-is, w.at-is) (
            omega (arith, p.upper_bound),
            omega arith,
            rw next at (left_more c.loop-k.invariant.2 p.shown (lines_counted _ _ _ _ _ _ _ more _ c.take_symbol-step.ensures _ _ _ _ w.in-Counted.is)),
          )
    ]

pub show_last-requires-2 : goal.show_last-requires-2
show_last-requires-2 c = let h = room (goal.at.show_last-requires-2 c).At-loop-k in omega arith

pub returns : goal.returns
returns c =
    let p = c.show_last-2.ensures in
    let h = room (goal.at.returns c).At-loop-k in
    let none : length c.args.input.now ≤ 2 * c.loop-k.k + 1 = omega arith in
    record {
      shown = left-last c.loop-k.invariant.2 p.shown (lines_end _ _ _ _ _ _ _ none ∙ ap (last_line c.loop-k.n) (as_number c.loop-k.p.running ∙ sym c.from.ensures));
      upper_bound = omega (arith, p.upper_bound);
    }
