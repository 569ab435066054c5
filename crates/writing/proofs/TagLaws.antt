-- What the reader finds of the sender's tags: the laws that demand 3 uses, by induction on the run. `a` is the two addresses, `n` the field after
-- the tags. Assumes nothing.
use Prim.Native.Nat.{ℕ, zero, suc, ◌*◌, ◌≤◌, ◌<◌}
use native.Mathlib.Omega.{arith}
use native.Mathlib.Nat.{not-suc-le-zero, le_of_suc-le-suc}
use mathlib.Core.Path.{◌≡◌, refl, ap, ◌∙◌}
use mathlib.Core.Bool.{true, false}
use mathlib.Core.List.{List, [], ◌∷◌, ◌++◌, append_assoc}
use lib.ListN.{length}
use lib.Seq.{drop_at, length-take-le}
use lib.Dec.{eqb, lit<}
use Rattle.line.specs.Limits.{most_tags}
use Rattle.line.specs.Octets.{high_first_at, high_first}
use Rattle.line.proofs.Octets.{high_first-read}
use Rattle.fields.specs.Tags.{is_tag_kind, tag_run, tag_count}
use Rattle.fields.specs.Fields.{first_field}
use Rattle.fields.proofs.Tags.{run_ends, run-goes_on}
use Rattle.control.specs.Control.{is_control_frame}
use Rattle.writing.specs.declared.Kind.{Kind}
use Rattle.writing.specs.declared.Kind.TheVariants.{Customer, Service}
use Rattle.writing.specs.declared.Tag.{Tag}
use Rattle.writing.specs.declared.Client.{Client}
use Rattle.writing.specs.Frames.{kind_field, tags_sent, tag_octets}

-- ---- a kind: two octets that a reader takes for a tag, and not for a control frame

kind_bits_lem : (k : Kind) → kind_field k < 65536
kind_bits_lem Customer = lit< tt
kind_bits_lem Service = lit< tt

kind_is : (k : Kind) → is_tag_kind (kind_field k) ≡ true
unfolding is_tag_kind
kind_is Customer = refl
kind_is Service = refl

kind_plain : (k : Kind) → eqb (kind_field k) 0x8808 ≡ false
kind_plain Customer = refl
kind_plain Service = refl

-- ---- a run

-- one tag and the rest, as the writer's list and as the reader sees it
tag_then : (t : Tag) (ts : List Tag) (r : List ℕ)
    → tag_octets (t ∷ ts) ++ r ≡ high_first (kind_field t.kind) ++ (high_first t.control ++ (tag_octets ts ++ r))
unfolding tag_octets
tag_then t ts r =
    append_assoc (high_first (kind_field t.kind)) (high_first t.control ++ tag_octets ts) r
    ∙ ap (λ (l : List ℕ). high_first (kind_field t.kind) ++ l) (append_assoc (high_first t.control) (tag_octets ts) r)

pub tag_length : (ts : List Tag) → length (tag_octets ts) ≡ 4 * length ts
unfolding tag_octets high_first
tag_length [] = refl
tag_length (t ∷ ts) = let rest = tag_length ts in omega arith

run_is : (ts : List Tag) (most n : ℕ) (r : List ℕ) → length ts ≤ most → n < 65536 → is_tag_kind n ≡ false
    → tag_run most (tag_octets ts ++ (high_first n ++ r)) ≡ length ts
unfolding tag_octets
run_is [] most n r le lt h = run_ends most n r lt h
run_is (t ∷ ts) zero n r le lt h = absurd (not-suc-le-zero le)
run_is (t ∷ ts) (suc most) n r le lt h =
    ap (tag_run (suc most)) (tag_then t ts (high_first n ++ r))
    ∙ run-goes_on most (kind_field t.kind) t.control (tag_octets ts ++ (high_first n ++ r)) (kind_bits_lem t.kind) (kind_is t.kind)
    ∙ (let rest = run_is ts most n r (le_of_suc-le-suc le) lt h in omega arith)

pub tags_are : (ts : List Tag) (a : List ℕ) (n : ℕ) (r : List ℕ) → length ts ≤ most_tags → length a ≡ 12 → n < 65536 → is_tag_kind n ≡ false
    → tag_count (a ++ (tag_octets ts ++ (high_first n ++ r))) ≡ length ts
unfolding tag_count
tags_are ts a n r few e lt h = ap (tag_run most_tags) (drop_at a (tag_octets ts ++ (high_first n ++ r)) 12 e) ∙ run_is ts most_tags n r few lt h

pub not_control : (ts : List Tag) (a : List ℕ) (n : ℕ) (r : List ℕ) → length a ≡ 12 → n < 65536 → eqb n 0x8808 ≡ false
    → is_control_frame (a ++ (tag_octets ts ++ (high_first n ++ r))) ≡ false
unfolding tag_octets is_control_frame first_field
not_control [] a n r e lt h = ap (λ (k : ℕ). eqb k 0x8808) (high_first-read a n r 12 e lt) ∙ h
not_control (t ∷ ts) a n r e lt h =
    let rest = high_first t.control ++ (tag_octets ts ++ (high_first n ++ r)) in
    ap (λ (l : List ℕ). eqb (high_first_at (a ++ l) 12) 0x8808) (tag_then t ts (high_first n ++ r))
    ∙ ap (λ (j : ℕ). eqb j 0x8808) (high_first-read a (kind_field t.kind) rest 12 e (kind_bits_lem t.kind))
    ∙ kind_plain t.kind

-- ---- those of a client frame: as many as it says, of the array's eight

pub tags_count : (c : Client) → length c.tags ≡ 8 → c.count ≤ most_tags → length (tags_sent c) ≡ c.count
unfolding tags_sent
tags_count c eight few = length-take-le c.count c.tags (omega arith)
