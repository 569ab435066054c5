-- Two buffers and one list: the capture of the code's two lent buffers. Assumes nothing.
use Prim.Native.Nat.{ℕ, zero, suc, ◌+◌, ◌≤◌, ◌<◌}
use native.Mathlib.Omega.{arith}
use native.Mathlib.Numerals.{add-one}
use mathlib.Core.Path.{◌≡◌, refl, sym, ap, ap₂, ◌∙◌}
use mathlib.Core.List.{List, [], ◌∷◌, ◌++◌}
use lib.ListN.{length, get_or, take, drop, drop_of_length-le}
use lib.Seq.{drop-cons}
use Rattle.line.specs.Line.{Symbol, capture, octets_of, marks_of}

pub length-capture : (os ms : List ℕ) → length os ≡ length ms → length (capture os ms) ≡ length os
unfolding capture
length-capture [] ms e = refl
length-capture (o ∷ os) [] e = absurd (omega arith)
length-capture (o ∷ os) (m ∷ ms) e = ap suc (length-capture os ms (omega arith))

pub drop-capture : (n : ℕ) (os ms : List ℕ) → drop n (capture os ms) ≡ capture (drop n os) (drop n ms)
unfolding capture
drop-capture zero os ms = refl
drop-capture (suc n) [] ms = refl
drop-capture (suc n) (o ∷ os) [] = go (drop n os)
  where
    go : (l : List ℕ) → [] ≡ capture l []
    go [] = refl
    go (x ∷ xs) = refl
drop-capture (suc n) (o ∷ os) (m ∷ ms) = drop-capture n os ms

pub take-capture : (n : ℕ) (os ms : List ℕ) → take n (capture os ms) ≡ capture (take n os) (take n ms)
unfolding capture
take-capture zero os ms = refl
take-capture (suc n) [] ms = refl
take-capture (suc n) (o ∷ os) [] = refl
take-capture (suc n) (o ∷ os) (m ∷ ms) = ap (λ (t : List Symbol). record { octet = o; mark = m } ∷ t) (take-capture n os ms)

pub capture-append : (os os' ms ms' : List ℕ) → length os ≡ length ms → capture (os ++ os') (ms ++ ms') ≡ capture os ms ++ capture os' ms'
unfolding capture
capture-append [] os' [] ms' e = refl
capture-append [] os' (m ∷ ms) ms' e = absurd (omega arith)
capture-append (o ∷ os) os' [] ms' e = absurd (omega arith)
capture-append (o ∷ os) os' (m ∷ ms) ms' e = ap (λ (t : List Symbol). record { octet = o; mark = m } ∷ t) (capture-append os os' ms ms' (omega arith))

-- a list of symbols is the line of its two buffers
pub capture_of : (l : List Symbol) → capture (octets_of l) (marks_of l) ≡ l
unfolding capture octets_of marks_of
capture_of [] = refl
capture_of (x ∷ xs) = ap (λ (t : List Symbol). x ∷ t) (capture_of xs)

pub length-octets_of : (l : List Symbol) → length (octets_of l) ≡ length l
unfolding octets_of
length-octets_of [] = refl
length-octets_of (x ∷ xs) = ap suc (length-octets_of xs)

pub length-marks_of : (l : List Symbol) → length (marks_of l) ≡ length l
unfolding marks_of
length-marks_of [] = refl
length-marks_of (x ∷ xs) = ap suc (length-marks_of xs)

-- the symbol at a place of the two buffers
abbrev pub symbol_at : List ℕ → List ℕ → ℕ → Symbol
symbol_at os ms i = record { octet = get_or os i 0; mark = get_or ms i 0 }

pub capture-at : (os ms : List ℕ) (i : ℕ) → i < length os → i < length ms → drop i (capture os ms) ≡ symbol_at os ms i ∷ drop (i + 1) (capture os ms)
capture-at os ms i h g =
    drop-capture i os ms
    ∙ ap₂ capture (drop-cons os i 0 h) (drop-cons ms i 0 g)
    ∙ cons (get_or os i 0) (drop (suc i) os) (get_or ms i 0) (drop (suc i) ms)
    ∙ ap (λ (t : List Symbol). symbol_at os ms i ∷ t) (sym (drop-capture (suc i) os ms) ∙ ap (λ (n : ℕ). drop n (capture os ms)) (sym (add-one i)))
  where
    cons : (o : ℕ) (os : List ℕ) (m : ℕ) (ms : List ℕ) → capture (o ∷ os) (m ∷ ms) ≡ record { octet = o; mark = m } ∷ capture os ms
    cons o os m ms = unfold capture in refl

no_marks : (os : List ℕ) → capture os [] ≡ []
unfolding capture
no_marks [] = refl
no_marks (o ∷ os) = refl

-- the capture ends where either buffer does
pub capture-end-octets : (os ms : List ℕ) (i : ℕ) → length os ≤ i → drop i (capture os ms) ≡ []
unfolding capture
capture-end-octets os ms i h = drop-capture i os ms ∙ ap (λ (l : List ℕ). capture l (drop i ms)) (drop_of_length-le os {i = i} h)

pub capture-end-marks : (os ms : List ℕ) (i : ℕ) → length ms ≤ i → drop i (capture os ms) ≡ []
capture-end-marks os ms i h = drop-capture i os ms ∙ ap (capture (drop i os)) (drop_of_length-le ms {i = i} h) ∙ no_marks (drop i os)

-- the buffers of two lists of symbols, one behind the other
pub octets_of-append : (a b : List Symbol) → octets_of (a ++ b) ≡ octets_of a ++ octets_of b
unfolding octets_of
octets_of-append [] b = refl
octets_of-append (x ∷ a) b = ap (λ (l : List ℕ). x.octet ∷ l) (octets_of-append a b)

pub marks_of-append : (a b : List Symbol) → marks_of (a ++ b) ≡ marks_of a ++ marks_of b
unfolding marks_of
marks_of-append [] b = refl
marks_of-append (x ∷ a) b = ap (λ (l : List ℕ). x.mark ∷ l) (marks_of-append a b)
