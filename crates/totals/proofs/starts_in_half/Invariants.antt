-- `totals::starts_in_half` meets its contract. The invariant: what was counted, and what is left to count, are together the whole. Assumes nothing.
use Prim.Native.Nat.{◌+◌, ◌-◌, ◌≤◌}
use mathlib.Core.Path.{◌≡◌}
use Rattle.line.specs.Line.{capture}
use Rattle.totals.specs.Totals.{starts_in}
use Rattle.totals.proofs.starts_in_half.Given as goal

abbrev pub invariant-loop-i : goal.invariant-loop-i
invariant-loop-i l =
    (l.n ≤ l.i - l.from) × (l.n + starts_in (capture l.octets l.marks) l.i l.to ≡ starts_in (capture l.octets l.marks) l.from l.to)
