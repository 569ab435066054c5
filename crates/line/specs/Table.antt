-- Document 01's tables ("the first rule that holds gives the outcome", "Lowest number first"): rows in the order in which they are tried.
use Rattle.std.specs.Prelude.{Bool, true, false}

-- a row: where `holds`, the table gives `gives`
pub record Row (A : Type 0) : Type 0 where
  pub holds : Bool
  pub gives : A

infix 70 ◌⇒◌
abbrev pub ◌⇒◌ : {A : Type 0} → Bool → A → Row A
b ⇒ a = record { holds = b; gives = a }

-- rows in their order, and what "everything else" gives
infixr 60 ◌∣◌
pub data Table (A : Type 0) : Type 0 where
  otherwise : A → Table A
  ◌∣◌ : Row A → Table A → Table A

-- what the first row that holds gives (by `elim`, so that no later row is computed)
unfoldable pub first : {A : Type 0} → Table A → A
first (otherwise a) = a
first (r ∣ rs) = elim r.holds [ true ↦ r.gives | false ↦ first rs ]
