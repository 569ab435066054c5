-- A table's first row: it holds, or the next rows are tried. Assumes nothing.
use mathlib.Core.Path.{◌≡◌, refl}
use mathlib.Core.Bool.{Bool, true, false}
use Rattle.line.specs.Table.{Table, otherwise, ◌∣◌, ◌⇒◌, first}

module _ {A : Type 0} where
  pub first-here : {b : Bool} (a : A) (rows : Table A) → b ≡ true → first (b ⇒ a ∣ rows) ≡ a
  unfolding first
  first-here a rows h = rw (h, first)

  pub first_next : {b : Bool} (a : A) (rows : Table A) → b ≡ false → first (b ⇒ a ∣ rows) ≡ first rows
  unfolding first
  first_next a rows h = rw (h, first)

  pub first-other : (a : A) → first (otherwise a) ≡ a
  unfolding first
  first-other a = refl
