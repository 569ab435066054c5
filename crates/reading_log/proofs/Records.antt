-- One record: numbers low octet first, written and read, and the octets of the five fields. Assumes nothing.
use Prim.Native.Nat.{ℕ, zero, suc, ◌+◌, ◌-◌, ◌*◌, ◌/◌, ◌%◌, ◌^◌, ◌≤◌, ◌<◌}
use native.Mathlib.Omega.{arith}
use native.Mathlib.Nat.{pow-suc, div-lt_iff_lt-mul, div-add-mod', mod-eq_of_lt}
use mathlib.Core.Path.{◌≡◌, refl, sym, ap, ap₂, ◌∙◌}
use mathlib.Core.Bool.{true, false, not}
use mathlib.Core.List.{List, [], ◌∷◌, ◌++◌, append_assoc, append-nil}
use lib.ListN.{length, get_or, take, drop, set, length-append, drop_of_length-le}
use lib.Seq.{sets, get_or_at, append_snoc, drop-cons, take-add, take_all}
use lib.Dec.{eqb, lit<}
use borrow.Author.Tests.{eqb-true, eq-eqb, ne_eqb, not-false}
use Rattle.line.specs.Limits.{record_size}
use Rattle.line.specs.Line.{overwrite}
use Rattle.line.specs.Octets.{low_first}
use Rattle.reading_log.specs.declared.Record.{Record}
use Rattle.reading_log.specs.Log.{low_octets, octets_of_record, record_of, is_used, counts}
use Rattle.reading_log.specs.Claims.{Fits, OfOctets}

-- ---- a number, low octet first

pub length-low_octets : (n x : ℕ) → length (low_octets n x) ≡ n
unfolding low_octets
length-low_octets zero x = refl
length-low_octets (suc n) x = ap suc (length-low_octets n _)

-- one octet is written, and the rest of the number is to come: the turn of a loop that writes
pub low_turn : (d : List ℕ) (at j n y : ℕ) → j < n
    → sets d (at + j) (low_octets (n - j) y) ≡ sets (set d (at + j) (y % 256)) (at + (j + 1)) (low_octets (n - (j + 1)) (y / 256))
unfolding low_octets
low_turn d at j n y h =
    let e : n - j ≡ suc (n - (j + 1)) = omega arith in
    let g : at + (j + 1) ≡ suc (at + j) = omega arith in
    rw (e, g)

-- a number is read where it was written, between any octets
low_back : (h : List ℕ) (n x : ℕ) (t : List ℕ) (at : ℕ) → length h ≡ at → x < 256 ^ n → low_first (h ++ (low_octets n x ++ t)) at n ≡ x
unfolding low_first low_octets
low_back h zero x t at e lt = omega arith
low_back h (suc n) x t at e lt =
    let y : ℕ = x % 256 in
    let q : ℕ = x / 256 in
    let l : List ℕ = low_octets n q ++ t in
    let below : q < 256 ^ n = (div-lt_iff_lt-mul {k = 256} {x = x} {y = 256 ^ n} (lit< tt)).1 (rw (pow-suc 256 n) at lt) in
    let n' : length (h ++ (y ∷ [])) ≡ at + 1 = length-append h (y ∷ []) ∙ omega arith in
    let ih : low_first ((h ++ (y ∷ [])) ++ l) (at + 1) n ≡ q = low_back (h ++ (y ∷ [])) n q t (at + 1) n' below in
    ap₂ (λ (a b : ℕ). a * 256 + b) (ap (λ (m : List ℕ). low_first m (at + 1) n) (sym (append_snoc h y l)) ∙ ih) (get_or_at h y l 0 at e) ∙ div-add-mod' x 256

-- ---- the octets of a record

pub length_record : (r : Record) → length (octets_of_record r) ≡ record_size
unfolding octets_of_record
length_record r = simp (length-append, length-low_octets)

-- a record over 16 octets is all that stands there
pub record_over : (s : List ℕ) (r : Record) → length s ≡ record_size → overwrite s 0 (octets_of_record r) ≡ octets_of_record r
unfolding overwrite
record_over s r n =
    let o = octets_of_record r in
    ap (λ (t : List ℕ). o ++ t) (drop_of_length-le s {i = 0 + length o} (let h = length_record r in omega arith)) ∙ append-nil o

-- "Records are read as they stand": one that was written is read
pub record_back : (r : Record) → Fits r → record_of (octets_of_record r) ≡ r
unfolding record_of octets_of_record
record_back r f =
    let p = low_octets 4 r.place in
    let o = low_octets 1 r.outcome in
    let w = low_octets 1 r.way in
    let h = low_octets 2 r.handed in
    let s = low_octets 8 r.status in
    let all = p ++ o ++ w ++ h ++ s in
    let ep : low_first all 0 4 ≡ r.place
    = ap (λ (l : List ℕ). low_first l 0 4) (simp append_assoc) ∙ low_back [] 4 r.place (o ++ (w ++ (h ++ s))) 0 refl f.place in
    let eo : low_first all 4 1 ≡ r.outcome
    = ap (λ (l : List ℕ). low_first l 4 1) (simp append_assoc) ∙ low_back p 1 r.outcome (w ++ (h ++ s)) 4 (length-low_octets 4 r.place) f.outcome in
    let ew : low_first all 5 1 ≡ r.way
    = ap (λ (l : List ℕ). low_first l 5 1) (simp append_assoc) ∙ low_back (p ++ o) 1 r.way (h ++ s) 5 (simp (length-append, length-low_octets)) f.way in
    let eh : low_first all 6 2 ≡ r.handed
    = ap (λ (l : List ℕ). low_first l 6 2) (simp append_assoc) ∙ low_back (p ++ o ++ w) 2 r.handed s 6 (simp (length-append, length-low_octets)) f.handed in
    let es : low_first all 8 8 ≡ r.status
    = ap (λ (l : List ℕ). low_first l 8 8) (simp (append_assoc, append-nil))
    ∙ low_back (p ++ o ++ w ++ h) 8 r.status [] 8 (simp (length-append, length-low_octets)) f.status in
    (λ i. record { place = ep i; outcome = eo i; way = ew i; handed = eh i; status = es i })

-- ---- what stands in 16 octets

-- a number that stands in n octets is theirs, and is written as they stand
low_small : (s : List ℕ) (at n : ℕ) → OfOctets s → low_first s at n < 256 ^ n
unfolding low_first
low_small s at zero o = lit< tt
low_small s at (suc n) o =
    let h = low_small s (at + 1) n o in
    let d = o at in
    rw (pow-suc 256 n) (omega arith)

low_again : (s : List ℕ) (at n : ℕ) → OfOctets s → at + n ≤ length s → low_octets n (low_first s at n) ≡ take n (drop at s)
unfolding low_first low_octets
low_again s at zero o h = refl
low_again s at (suc n) o h =
    let x : ℕ = low_first s (at + 1) n in
    let d : ℕ = get_or s at 0 in
    let lt : d < 256 = o at in
    ap₂ (λ (a : ℕ) (b : List ℕ). a ∷ b) (let e : (x * 256 + d) % 256 ≡ d = omega arith in e)
    (ap (low_octets n) (let e : (x * 256 + d) / 256 ≡ x = omega arith in e)
    ∙ low_again s (at + 1) n o (omega arith)
    ∙ ap (λ (i : ℕ). take n (drop i s)) (let e : at + 1 ≡ suc at = omega arith in e))
    ∙ ap (take (suc n)) (sym (drop-cons s at 0 (omega arith)))

-- behind the octets up to a place
more : (s : List ℕ) → OfOctets s → (at n : ℕ) (h : List ℕ) → at + n ≤ length s → h ≡ take at s → h ++ low_octets n (low_first s at n) ≡ take (at + n) s
more s o at n h le e = ap₂ ◌++◌ e (low_again s at n o le) ∙ sym (take-add at n s)

-- "Records are read as they stand": written again, a record that is read gives the same 16 octets
pub record_stands : (s : List ℕ) → length s ≡ record_size → OfOctets s → octets_of_record (record_of s) ≡ s
unfolding record_of octets_of_record
record_stands s n o =
    more s o 8 8 _ (omega arith) (more s o 6 2 _ (omega arith) (more s o 5 1 _ (omega arith) (more s o 4 1 _ (omega arith) (low_again s 0 4 o (omega arith)))))
    ∙ take_all record_size s (omega arith)

-- and its fields have their widths
pub record_fits : (s : List ℕ) → OfOctets s → Fits (record_of s)
unfolding record_of
record_fits s o =
    record {
      place = low_small s 0 4 o;
      outcome = low_small s 4 1 o;
      way = low_small s 5 1 o;
      handed = low_small s 6 2 o;
      status = low_small s 8 8 o;
    }

-- ---- used or not

pub octet-unused : (s : List ℕ) → get_or s 4 0 ≡ 0 → is_used s ≡ false
unfolding is_used
octet-unused s h = ap not (eq-eqb (get_or s 4 0) 0 h)

pub octet-used : (s : List ℕ) → (get_or s 4 0 ≡ 0 → ⊥) → is_used s ≡ true
unfolding is_used
octet-used s h = ap not (ne_eqb (get_or s 4 0) 0 h)

pub counts-not : (r : Record) → r.outcome ≡ 0 → counts r ≡ false
unfolding counts
counts-not r h = ap not (eq-eqb r.outcome 0 h)

pub counts_so : (r : Record) → (r.outcome ≡ 0 → ⊥) → counts r ≡ true
unfolding counts
counts_so r h = ap not (ne_eqb r.outcome 0 h)

pub outcome-none : (r : Record) → counts r ≡ false → r.outcome ≡ 0
unfolding counts
outcome-none r h = eqb-true r.outcome 0 (not-false _ h)

-- a record is used where it is written, if it has an outcome
pub used-counts : (r : Record) → Fits r → is_used (octets_of_record r) ≡ counts r
unfolding is_used counts octets_of_record low_octets
used-counts r f = ap (λ (n : ℕ). not (eqb n 0)) (mod-eq_of_lt f.outcome)
