-- The parts of a text, one after the other, as a writer gets them. Assumes nothing.
use Rattle.std.proofs.Common.{◌≡◌, ◌≢◌, ℕ, ◌+◌, ◌≤◌, List, ◌++◌, Option, length, take, drop, take-append-drop, take_all, take-add, sym, ap, ◌∙◌, subst, arith}
use Rattle.std.proofs.Math.Seq.{take-append_seam}
use Rattle.std.specs.Io.KnownBytes.{Appends}
use Rattle.std.proofs.KnownBytes.{Appends-trans}
use Rattle.line.specs.Line.{overwrite}
use Rattle.printing.specs.Parts.{part}
use Rattle.printing.proofs.Puts.{front_written}
use Rattle.printing.proofs.Shows.{part-long}

-- a part is as long as it is
part_itself : (room from : ℕ) (text : List ℕ) → take (length (part room from text)) (drop from text) ≡ part room from text
part_itself room from text =
    let l = drop from text in
    ap (take (length (take room l))) (sym (take-append-drop room l)) ∙ take-append_seam (take room l) (drop room l)

-- the front of a text and the part behind it
front_more : (room from k : ℕ) (text : List ℕ) → k ≡ length (part room from text) → take (from + k) text ≡ take from text ++ part room from text
front_more room from k text e =
    take-add from k text ∙ ap (λ (l : List ℕ). take from text ++ l) (ap (λ (n : ℕ). take n (drop from text)) e ∙ part_itself room from text)

-- a writer that got the front of a text gets the part behind it, out of the buffer
pub writes_more : (a b c : Option (List ℕ)) (room from k : ℕ) (text old held : List ℕ) → k ≡ length (part room from text) → held ≡ overwrite old 0 (part room from text)
    → Appends a b (take from text) → Appends b c (take k held) → Appends a c (take (from + k) text)
writes_more a b c room from k text old held e h front next =
    subst (Appends a c) (sym (front_more room from k text e))
    (Appends-trans a b c (take from text) (part room from text) front (subst (Appends b c) (front_written old (part room from text) held k e h) next))

-- a part that does not fill the room is the last
pub last_ends : (room from k : ℕ) (text : List ℕ) → k ≡ length (part room from text) → k ≢ room → length text ≤ from + k
last_ends room from k text e short = let n = part-long room from text in omega arith

-- and then the front is the whole text
pub writes_all : (a b : Option (List ℕ)) (from : ℕ) (text : List ℕ) → Appends a b (take from text) → length text ≤ from → Appends a b text
writes_all a b from text front end = subst (Appends a b) (take_all from text end) front
