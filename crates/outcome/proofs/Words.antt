-- The status word, for the arms that share a value; the group bit. Assumes nothing.
use Prim.Native.Nat.{ℕ, ◌%◌}
use mathlib.Core.Path.{◌≡◌, ap}
use mathlib.Core.List.{List}
use lib.ListN.{get_or}
use lib.Seq.{get_or-take}
use lib.Dec.{eqb, lit<}
use denote.Enum.Declared.{tag_of}
use types.Run.{OneOf}
use Rattle.station.specs.declared.Outcome.{Outcome}
use Rattle.station.specs.contracts.Outcome.{the_type}
use Rattle.station.proofs.Arms.{one_to_seven, early}
use Rattle.station.specs.Station.{is_group}
use Rattle.fields.specs.Fields.{destination}
use Rattle.outcome.specs.Status.{word_of, status_of}

-- ---- the match's last arm

module _ (bits all handed : ℕ) where
  pub no_word : (o : Outcome) → OneOf one_to_seven (tag_of the_type o) → 0 ≡ word_of o bits all handed
  no_word o h = early o 0 _ _ _ _ h

-- ---- the word of a frame, from what was found to be the frame's

pub word_of_lem : (o : Outcome) {word : ℕ} {f g : List ℕ} {tags tags' all all' handed handed' : ℕ} → word ≡ status_of o f tags all handed
    → f ≡ g → tags ≡ tags' → all ≡ all' → handed ≡ handed' → word ≡ status_of o g tags' all' handed'
word_of_lem o w e t a h = cc

-- ---- the group bit

pub group-octet : (f : List ℕ) → is_group (destination f) ≡ eqb (get_or f 0 0 % 2) 1
unfolding is_group destination
group-octet f = ap (λ (o : ℕ). eqb (o % 2) 1) (get_or-take 6 f 0 0 (lit< tt))
