-- Laws of specs/Octets.antt. Assumes nothing.
use Prim.Native.Nat.{ℕ, ◌+◌, ◌-◌, ◌*◌, ◌≤◌, ◌<◌}
use native.Mathlib.Omega.{arith}
use native.Mathlib.Nat.{add-zero}
use mathlib.Core.Path.{◌≡◌, refl, sym, ap, ap₂, ◌∙◌}
use mathlib.Core.Bool.{Bool, true, false, ◌&&◌}
use mathlib.Core.List.{List, [], ◌∷◌, ◌++◌}
use lib.ListN.{length, get_or, take, drop, get_or-eq_default}
use lib.Seq.{get_or-append-add, get_or-take, get_or-drop, ext_get_or, length-take-le, take_all, drop_at, take_at}
use lib.Dec.{eqb}
use borrow.Author.Tests.{eq-eqb, eqb-true}
use Rattle.line.specs.Octets.{same_octets, high_first_at, high_first, between}

pub same_octets-refl : (l : List ℕ) → same_octets l l ≡ true
unfolding same_octets
same_octets-refl [] = refl
same_octets-refl (x ∷ xs) = ap₂ ◌&&◌ (eq-eqb x x refl) (same_octets-refl xs)

-- a number of two octets, read where it was written
pub high_first-read : (h : List ℕ) (n : ℕ) (r : List ℕ) (at : ℕ) → length h ≡ at → n < 65536 → high_first_at (h ++ (high_first n ++ r)) at ≡ n
unfolding high_first_at high_first
high_first-read h n r at e lt =
    ap (λ (k : ℕ). get_or (h ++ (high_first n ++ r)) k 0 * 256 + get_or (h ++ (high_first n ++ r)) (k + 1) 0) (sym e)
    ∙ ap₂ (λ (a b : ℕ). a * 256 + b)
    (ap (λ (k : ℕ). get_or (h ++ (high_first n ++ r)) k 0) (sym (add-zero (length h))) ∙ get_or-append-add h (high_first n ++ r) 0 0)
    (get_or-append-add h (high_first n ++ r) 1 0)
    ∙ omega arith

-- the part between what stands before and what stands after
pub between_middle : (a b q : List ℕ) (from to : ℕ) → length a ≡ from → length a + length b ≡ to → between (a ++ (b ++ q)) from to ≡ b
unfolding between
between_middle a b q from to ea et = ap (take (to - from)) (drop_at a (b ++ q) from ea) ∙ take_at b q (to - from) (omega arith)

-- ---- two tests

pub false_unless : (b : Bool) → (b ≡ true → ⊥) → b ≡ false
false_unless true h = absurd (h refl)
false_unless false h = refl

pub same_test : (s t : Bool) → (s ≡ true → t ≡ true) → (t ≡ true → s ≡ true) → s ≡ t
same_test true t h g = sym (h refl)
same_test false true h g = g refl
same_test false false h g = refl

and_left : (s t : Bool) → (s && t) ≡ true → s ≡ true
and_left true t h = refl
and_left false t h = h

and_right : (s t : Bool) → (s && t) ≡ true → t ≡ true
and_right true t h = h
and_right false t h = cc

-- ---- the same octets

pub same_octets-eq : (x y : List ℕ) → same_octets x y ≡ true → x ≡ y
unfolding same_octets
same_octets-eq [] [] h = refl
same_octets-eq [] (y ∷ ys) h = cc
same_octets-eq (x ∷ xs) [] h = cc
same_octets-eq (x ∷ xs) (y ∷ ys) h =
    ap₂ ◌∷◌ (eqb-true x y (and_left _ _ h)) (same_octets-eq xs ys (and_right (eqb x y) (same_octets xs ys) h))

pub same_octets-not : (x y : List ℕ) → (x ≡ y → ⊥) → same_octets x y ≡ false
same_octets-not x y h = false_unless (same_octets x y) (λ e. h (same_octets-eq x y e))

-- ---- the first n octets, one by one: in which order they are compared does not matter
module _ (n : ℕ) (f a : List ℕ) where
  pub front-short : length f < n → length a ≡ n → same_octets (take n f) a ≡ false
  front-short h e = same_octets-not (take n f) a (λ q. omega (arith, ap length q, ap length (take_all n f (omega arith))))

  pub front_differs : (k : ℕ) → k < n → (get_or f k 0 ≡ get_or a k 0 → ⊥) → same_octets (take n f) a ≡ false
  front_differs k h d = same_octets-not (take n f) a (λ q. d (sym (get_or-take n f k 0 h) ∙ ap (λ (l : List ℕ). get_or l k 0) q))

  pub front_same : n ≤ length f → length a ≡ n → ((k : ℕ) → k < n → get_or f k 0 ≡ get_or a k 0) → same_octets (take n f) a ≡ true
  front_same h e s =
      let m : length (take n f) ≡ n = length-take-le n f h in
      let q : take n f ≡ a = ext_get_or 0 (take n f) a (m ∙ sym e) (λ k lt. get_or-take n f k 0 (omega arith) ∙ s k (omega arith)) in
      rw q (same_octets-refl a)

-- ---- a number of two octets

pub high_first-drop : (l : List ℕ) (n : ℕ) → high_first_at (drop n l) 0 ≡ high_first_at l n
unfolding high_first_at
high_first-drop l n =
    ap₂ (λ (a b : ℕ). a * 256 + b) (get_or-drop n l 0 0 ∙ ap (λ (k : ℕ). get_or l k 0) (add-zero n)) (get_or-drop n l 1 0)

pub high_first-end : (l : List ℕ) (at : ℕ) → length l ≤ at → high_first_at l at ≡ 0
unfolding high_first_at
high_first-end l at h = rw (get_or-eq_default l 0 {n = at} h, get_or-eq_default l 0 {n = at + 1} (omega arith))
