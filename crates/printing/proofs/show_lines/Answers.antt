-- `show_lines` meets its contract: with the lines of the readings left, the output is whole. Assumes nothing.
use native.Mathlib.Omega.{arith}
use mathlib.Core.Path.{◌≡◌, sym, ap, ap₂, ◌∙◌}
use mathlib.Core.List.{List}
use Prim.Native.Nat.{ℕ, ◌+◌, ◌-◌, ◌<◌}
use borrow.Author.Rules.{rules}
use lib.ListN.{length}
use Rattle.station.specs.declared.Settings.{Settings}
use Rattle.station.specs.declared.State.{State}
use Rattle.station.specs.Station.{fresh}
use Rattle.table.specs.Entries.{entries_of}
use Rattle.receive.specs.Walk.{readings_from}
use Rattle.printing.specs.Lines.{program_settings, last_line, lines_of}
use Rattle.printing.proofs.Shows.{left-start, left_more, left-last}
use Rattle.printing.proofs.Steps.{lines_counted, not-counted, lines_ended, lines_none, lines_all}
use borrow.Enum.Refused.{opened}
use Rattle.printing.proofs.show_lines.Goals as goal

pub loop-n-init : goal.loop-n-init
loop-n-init c =
    let a = c.args in
    let os = a.octets.now in
    let ms = a.marks.now in
    let e : length os + 1 - 0 ≡ length os + 1 = omega arith in (
      omega arith,
      left-start
          (ap (λ (k : ℕ). lines_of 0 (readings_from k c.settings-s.result 0 (entries_of c.empty-none.result) c.fresh_state-st.result os ms 0)) e
          ∙ ap₂ (λ (s : Settings) (st : State). lines_of 0 (readings_from (length os + 1) s 0 (entries_of c.empty-none.result) st os ms 0))
          c.settings-s.ensures c.fresh_state-st.ensures
          ∙ ap (λ (t : List ℕ). lines_of 0 (readings_from (length os + 1) program_settings 0 (entries_of t) fresh os ms 0)) c.empty-none.ensures
          ∙ lines_all os ms),
    )

pub returns-in_default : goal.returns-in_default
returns-in_default c =
    let more : 0 < length c.args.octets.now + 1 - c.loop-n.n = omega arith in
    let refused = let h = c.in_default in not-counted c.read-r.result.answer (search (rules, opened)) in
    let is = lines_ended _ _ _ _ _ _ _ _ _ more _ c.read-r.ensures refused in
    record {
      shown = left-last c.loop-n.invariant.1 c.show_last.ensures.shown (is ∙ ap (last_line c.loop-n.n) (sym c.open_number-opened.ensures));
      upper_bound = omega (arith, c.show_last.ensures.upper_bound, c.loop-n.invariant.0, c.requires);
    }

pub loop-n-preserved : goal.loop-n-preserved
loop-n-preserved c =
    let os = c.args.octets.now in
    let n = c.loop-n.n in
    let more : 0 < length os + 1 - n = omega arith in
    let next : length os + 1 - n - 1 ≡ length os + 1 - (n + 1) = omega arith in (
      omega arith,
      rw next at (left_more c.loop-n.invariant.1 c.show_counted-at.ensures.shown (lines_counted _ _ _ _ _ _ _ _ _ more _ c.read-r.ensures _ _ _ _ c.in-Counted.is)),
    )

pub returns-clause-shown : goal.returns-clause-shown
returns-clause-shown c =
    let os = c.args.octets.now in
    let none : length os + 1 - c.loop-n.n ≡ 0 = omega arith in
    let all : length os + 1 ≡ c.loop-n.n = omega arith in
    left-last c.loop-n.invariant.1 c.show_last-2.ensures.shown (rw (none, all) (lines_none _ _ _ _ _ _ _ _))
