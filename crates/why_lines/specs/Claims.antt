-- What the claim on the program `why` speaks of. The theorem is `whys_walk` of proofs/Claims.antt.
use Rattle.std.specs.Prelude.{List, [], ◌∷◌}
use Rattle.receive.specs.declared.Reading.{Reading}
use Rattle.reason.specs.declared.Explained.{Explained}
use Rattle.reason.specs.Claims.{SameAs}

-- call by call as a walk: as many, and each the reading's
unfoldable pub AllSame : List Explained → List Reading → Type 0
AllSame [] [] = Unit {0}
AllSame [] (r ∷ rs) = ⊥
AllSame (e ∷ es) [] = ⊥
AllSame (e ∷ es) (r ∷ rs) = SameAs e r × AllSame es rs
