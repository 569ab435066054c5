-- Internal: what a list holds once a piece of a text is written of which it has room for a part, and what ends the lines of a walk.
use Rattle.std.specs.Prelude.{ℕ, ◌+◌, ◌-◌, ◌≡◌, List, length, drop}
use Rattle.std.proofs.lemmas.List.Edits.{sets}
use Rattle.receive.specs.declared.Answer.{Answer}
use Rattle.receive.specs.declared.Answer.TheVariants.{Refused, Nothing, Open, Counted}

-- `new`, which stands at `at` of a text, was written over `old`, which has room for the text from `from` on: the next place of the text, and what the
-- list holds now. What does not lie in `old` is left out, by `sets`, whose laws have no side conditions; `shown-part` of the laws joins it to `part`.
pub record Shown (from : ℕ) (old : List ℕ) (at : ℕ) (new : List ℕ) (next : ℕ) (held : List ℕ) : Type 0 where
  pub goes : next ≡ at + length new
  pub holds : held ≡ sets old (at - from) (drop (from - at) new)

-- what the last line says of an answer that is no counted Start
abbrev pub open_number : Answer → ℕ
open_number (Refused x) = 0
open_number Nothing = 0
open_number Open = 1
open_number (Counted o w p v) = 0
