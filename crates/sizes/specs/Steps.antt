-- Internal: the frame lengths of a capture, Start by Start, as the code finds them, and two tables that are added count by count. No promise to a
-- caller needs it.
use Rattle.std.specs.Prelude.{ℕ, zero, suc, cond, List, [], ◌∷◌, ◌++◌, length, Option}
use Rattle.line.specs.Line.{unended, ended, MetStart}
use Rattle.station.specs.declared.Address.{Address}
use Rattle.station.specs.declared.Settings.{Settings}
use Rattle.station.specs.declared.Outcome.{Outcome}
use Rattle.outcome.specs.Outcomes.{outcome, frame_of}
use Rattle.sizes.specs.Sizes.{sized, together}

-- of a Start with this outcome, whose frame has n octets
abbrev pub length_if : Outcome → ℕ → List ℕ
length_if o n = cond (sized o) (n ∷ []) []

unfoldable pub lengths_of : Settings → List (Option Address) → List MetStart → List ℕ
lengths_of s own [] = []
lengths_of s own (m ∷ ms) =
    elim m.follows [
      | unended ↦ []
      | ended run by ↦ length_if (outcome s own run by) (length (frame_of run)) ++ lengths_of s own ms
    ]

-- counts of which the first n have been added already
unfoldable pub together_from : ℕ → List ℕ → List ℕ → List ℕ
together_from zero k l = together k l
together_from (suc n) [] l = []
together_from (suc n) (a ∷ k) [] = []
together_from (suc n) (a ∷ k) (b ∷ l) = a ∷ together_from n k l
