-- `outcome::opening` meets its contract. Assumes nothing.
use borrow.Author.Rules.{rules}
use Prim.Native.Nat.{ℕ}
use mathlib.Core.Path.{sym, ap}
use mathlib.Core.List.{List, ◌++◌}
use Rattle.line.specs.Line.{preamble}
use Rattle.table.proofs.Written.{six_list}
use Rattle.outcome.specs.Plain.{opening_of}
use Rattle.outcome.proofs.opening.Goals as goal

pub returns : goal.returns
unfolding opening_of preamble
returns c = ap (λ (l : List ℕ). preamble ++ l) (sym (six_list c.args.own.0 (search rules)))
