-- The client data's part: the arms that share a value, the match's last, by the places of its variants in the enum; how long it is, at most and in the
-- status word. Assumes nothing.
use Rattle.std.proofs.Common.{◌≡◌, ℕ, ◌≤◌, Bool, List, [], ◌∷◌, length, refl, arith}
use denote.Enum.Declared.{tag_of}
use types.Run.{OneOf, miss}
use Rattle.station.specs.declared.Settings.{Settings}
use Rattle.station.specs.declared.Outcome.{Outcome}
use Rattle.station.specs.declared.Outcome.TheVariants.{Cut, BadPreamble, Undersized, Oversized, WrongFcs, WrongLength, Filtered, PauseTaken, PfcTaken, ControlDropped, HandedOut}
use Rattle.station.specs.contracts.Outcome.{the_type}
use Rattle.fields.specs.declared.Layout.{Layout}
use Rattle.fields.specs.Fields.{field, data_place}
use Rattle.fields.specs.Places.{layout_of}
use Rattle.frame.specs.Frame.{data_from, frame_data}
use Rattle.frame.specs.Length.{client_data, handed_length}
use Rattle.frame.proofs.Length.{data_length, handed-le}
use Rattle.outcome.specs.Status.{status_of}
use Rattle.receive.specs.Reading.{empty_part, handed_part}
use Rattle.receive.specs.Steps.{part_at}

abbrev one_to_ten : List ℕ
one_to_ten = 0 ∷ 1 ∷ 2 ∷ 3 ∷ 4 ∷ 5 ∷ 6 ∷ 7 ∷ 8 ∷ 9 ∷ []

pub no_part : (checking : Bool) (o : Outcome) (at : ℕ) (f : List ℕ) (l : Layout) → OneOf one_to_ten (tag_of the_type o) → empty_part ≡ part_at checking o at f l
unfolding part_at
no_part checking Cut at f l h = refl
no_part checking BadPreamble at f l h = refl
no_part checking Undersized at f l h = refl
no_part checking Oversized at f l h = refl
no_part checking WrongFcs at f l h = refl
no_part checking WrongLength at f l h = refl
no_part checking Filtered at f l h = refl
no_part checking PauseTaken at f l h = refl
no_part checking PfcTaken at f l h = refl
no_part checking ControlDropped at f l h = refl
no_part checking HandedOut at f l h = absurd (miss one_to_ten 10 tt h)

module _ (s : Settings) (at : ℕ) (f : List ℕ) where
  -- the part of a frame, by its own layout
  pub part_laid : (o : Outcome) → part_at s.checking o at f (layout_of f) ≡ handed_part s o at f
  unfolding part_at handed_part layout_of handed_length client_data frame_data
  part_laid o = refl

  -- it is no longer than the frame
  pub part-le : (o : Outcome) → (handed_part s o at f).len ≤ length f
  unfolding handed_part handed_length client_data frame_data
  part-le Cut = omega arith
  part-le BadPreamble = omega arith
  part-le Undersized = omega arith
  part-le Oversized = omega arith
  part-le WrongFcs = omega arith
  part-le WrongLength = omega arith
  part-le Filtered = omega arith
  part-le PauseTaken = omega arith
  part-le PfcTaken = omega arith
  part-le ControlDropped = omega arith
  part-le HandedOut = omega (arith, handed-le (field f) (data_from (data_place f) f) s.checking, data_length (data_place f) f)

  -- the status word looks at its length for outcome 11 alone
  pub part-told : (o : Outcome) (tags all : ℕ)
      → status_of o f tags all (handed_part s o at f).len ≡ status_of o f tags all (handed_length s.checking f)
  unfolding handed_part status_of
  part-told Cut tags all = refl
  part-told BadPreamble tags all = refl
  part-told Undersized tags all = refl
  part-told Oversized tags all = refl
  part-told WrongFcs tags all = refl
  part-told WrongLength tags all = refl
  part-told Filtered tags all = refl
  part-told PauseTaken tags all = refl
  part-told PfcTaken tags all = refl
  part-told ControlDropped tags all = refl
  part-told HandedOut tags all = refl
