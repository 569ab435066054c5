-- What is said by outcome: the arms that outcomes 1 to 7 share, and those of 8 to 11 where they say the same, by the places of the variants in the enum.
-- Assumes nothing.
use Rattle.std.proofs.Common.{◌≡◌, ℕ, List, [], ◌∷◌, refl}
use denote.Enum.Declared.{tag_of}
use types.Run.{OneOf, miss}
use Rattle.station.specs.declared.Outcome.{Outcome}
use Rattle.station.specs.declared.Outcome.TheVariants.{Cut, BadPreamble, Undersized, Oversized, WrongFcs, WrongLength, Filtered}
use Rattle.station.specs.declared.Outcome.TheVariants.{PauseTaken, PfcTaken, ControlDropped, HandedOut}
use Rattle.station.specs.Numbers.{by_outcome}
use Rattle.station.specs.contracts.Outcome.{the_type}

abbrev pub one_to_seven : List ℕ
one_to_seven = 0 ∷ 1 ∷ 2 ∷ 3 ∷ 4 ∷ 5 ∷ 6 ∷ []

abbrev pub eight_to_eleven : List ℕ
eight_to_eleven = 7 ∷ 8 ∷ 9 ∷ 10 ∷ []

pub early : {A : Type 0} (o : Outcome) (x a b c d : A) → OneOf one_to_seven (tag_of the_type o) → x ≡ by_outcome o x a b c d
early Cut x a b c d h = refl
early BadPreamble x a b c d h = refl
early Undersized x a b c d h = refl
early Oversized x a b c d h = refl
early WrongFcs x a b c d h = refl
early WrongLength x a b c d h = refl
early Filtered x a b c d h = refl
early PauseTaken x a b c d h = absurd (miss one_to_seven 7 tt h)
early PfcTaken x a b c d h = absurd (miss one_to_seven 8 tt h)
early ControlDropped x a b c d h = absurd (miss one_to_seven 9 tt h)
early HandedOut x a b c d h = absurd (miss one_to_seven 10 tt h)

pub late : {A : Type 0} (o : Outcome) (x y : A) → OneOf eight_to_eleven (tag_of the_type o) → y ≡ by_outcome o x y y y y
late PauseTaken x y h = refl
late PfcTaken x y h = refl
late ControlDropped x y h = refl
late HandedOut x y h = refl
late Cut x y h = absurd (miss eight_to_eleven 0 tt h)
late BadPreamble x y h = absurd (miss eight_to_eleven 1 tt h)
late Undersized x y h = absurd (miss eight_to_eleven 2 tt h)
late Oversized x y h = absurd (miss eight_to_eleven 3 tt h)
late WrongFcs x y h = absurd (miss eight_to_eleven 4 tt h)
late WrongLength x y h = absurd (miss eight_to_eleven 5 tt h)
late Filtered x y h = absurd (miss eight_to_eleven 6 tt h)
