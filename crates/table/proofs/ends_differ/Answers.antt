-- `table::ends_differ` meets its contract: from the last entry on, each is none of those behind it. Assumes nothing.
use borrow.Author.Rules.{rules}
use native.Mathlib.Omega.{arith}
use Prim.Native.Nat.{ℕ, ◌+◌, ◌-◌}
use mathlib.Core.Path.{◌≡◌, sym, ap, subst, ◌∙◌}
use lib.ListN.{drop}
use Rattle.line.specs.Limits.{table_entries}
use Rattle.table.specs.Entries.{own_entries}
use Rattle.table.specs.Tests.{twice}
use Rattle.table.specs.Steps.{Marked}
use Rattle.table.proofs.Entries.{twice-end}
use Rattle.table.proofs.Marks.{none-among, marked_from}
use Rattle.table.proofs.ends_differ.Goals as goal

pub loop-k-init : goal.loop-k-init
loop-k-init c = (twice-end _ _ table_entries (omega arith), (search rules, λ d l. absurd (none-among _ _ table_entries d (omega arith) l)))

pub loop-k-preserved : goal.loop-k-preserved
loop-k-preserved c =
    let l = c.loop-k in
    let a = c.args in
    let back : l.k - 1 + 1 ≡ l.k = omega arith in
    marked_from a.job a.t.now (l.k - 1) l.seen c.met.new.seen (omega arith) (c.met.ensures c.if-met.false)
    (ap (λ (n : ℕ). twice (drop n (own_entries a.job a.t.now))) back ∙ l.invariant.0)
    (subst (λ (n : ℕ). Marked (drop n (own_entries a.job a.t.now)) l.seen) (sym back) l.invariant.1)
