-- `show_whys` meets its contract: with the lines of the calls left, the output is whole. Assumes nothing.
use native.Mathlib.Omega.{arith}
use mathlib.Core.Path.{◌≡◌, sym, ap, ap₂, ◌∙◌}
use mathlib.Core.List.{List}
use Prim.Native.Nat.{ℕ, ◌+◌, ◌-◌, ◌<◌}
use borrow.Author.Rules.{rules}
use lib.ListN.{length}
use Rattle.station.specs.declared.Settings.{Settings}
use Rattle.table.specs.Entries.{entries_of}
use Rattle.printing.specs.Lines.{last_line}
use Rattle.printing.proofs.Shows.{left-start, left_more, left-last}
use Rattle.why_lines.specs.Whys.{explained_from, whys_of}
use Rattle.why_lines.proofs.Laws.{no_reason, whys_given, whys_ended, whys_none, whys_all}
use borrow.Enum.Refused.{opened}
use Rattle.why_lines.proofs.show_whys.Goals as goal

pub loop-n-init : goal.loop-n-init
loop-n-init c =
    let a = c.args in
    let os = a.octets.now in
    let ms = a.marks.now in
    let e : length os + 1 - 0 ≡ length os + 1 = omega arith in (
      omega arith,
      left-start
          (ap (λ (k : ℕ). whys_of 0 (explained_from k c.settings-s.result 0 (entries_of c.empty-none.result) os ms 0)) e
          ∙ ap₂ (λ (s : Settings) (t : List ℕ). whys_of 0 (explained_from (length os + 1) s 0 (entries_of t) os ms 0)) c.settings-s.ensures c.empty-none.ensures
          ∙ whys_all os ms),
    )

pub returns-in_default : goal.returns-in_default
returns-in_default c =
    let more : 0 < length c.args.octets.now + 1 - c.loop-n.n = omega arith in
    let refused = let h = c.in_default in no_reason c.explain-e.result.answer (search (rules, opened)) in
    let is = whys_ended _ _ _ _ _ _ _ _ more _ c.explain-e.ensures refused in
    record {
      shown = left-last c.loop-n.invariant.1 c.show_last.ensures.shown (is ∙ ap (last_line c.loop-n.n) (sym c.open_number-opened.ensures));
      upper_bound = omega (arith, c.show_last.ensures.upper_bound, c.loop-n.invariant.0, c.requires);
    }

pub loop-n-preserved : goal.loop-n-preserved
loop-n-preserved c =
    let os = c.args.octets.now in
    let n = c.loop-n.n in
    let more : 0 < length os + 1 - n = omega arith in
    let next : length os + 1 - n - 1 ≡ length os + 1 - (n + 1) = omega arith in (
      omega arith,
      rw next at (left_more c.loop-n.invariant.1 c.show_why-at.ensures.shown (whys_given _ _ _ _ _ _ _ _ more _ c.explain-e.ensures _ c.in-Because.is)),
    )

pub returns-clause-shown : goal.returns-clause-shown
returns-clause-shown c =
    let os = c.args.octets.now in
    let none : length os + 1 - c.loop-n.n ≡ 0 = omega arith in
    let all : length os + 1 ≡ c.loop-n.n = omega arith in
    left-last c.loop-n.invariant.1 c.show_last-2.ensures.shown (rw (none, all) (whys_none _ _ _ _ _ _ _))
