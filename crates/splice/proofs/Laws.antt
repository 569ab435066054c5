-- Laws of `sets`, for a writer that writes one piece after the other. Assumes nothing.
use Prim.Native.Nat.{ℕ, suc, ◌+◌, ◌-◌, ◌≤◌}
use mathlib.Core.Path.{◌≡◌, ◌∙◌}
use mathlib.Core.List.{List, [], ◌∷◌, ◌++◌, append_assoc}
use native.Mathlib.Nat.{add-zero}
use native.Mathlib.Omega.{arith}
use lib.ListN.{length, take, drop, set, length-append}
use lib.Seq.{sets, length-sets, sets-eq, take-append_seam, drop_at, length-take-le}
use Rattle.line.specs.Line.{overwrite}
use Rattle.splice.specs.Written.{Put}

-- two writes, the second where the first ended, are one write
pub sets_sets : (l : List ℕ) (i : ℕ) (a b : List ℕ) → sets (sets l i a) (i + length a) b ≡ sets l i (a ++ b)
sets_sets l i [] b = rw add-zero
sets_sets l i (x ∷ a) b =
    let e : i + suc (length a) ≡ suc i + length a = omega arith in
    rw e (sets_sets (set l i x) (suc i) a b)

-- one store more, behind n that were written: the turn of a loop that writes
pub sets_more : (l : List ℕ) (i : ℕ) (a : List ℕ) (n x : ℕ) → length a ≡ n → set (sets l i a) (i + n) x ≡ sets l i (a ++ (x ∷ []))
sets_more l i a n x e = rw (← e) (sets_sets l i a (x ∷ []))

-- a write, and then one from where it ended: the step of a writer's proof
infixl 4 ◌⨾◌
pub ◌⨾◌ : {l m n a b : List ℕ} {i j k : ℕ} → Put l i a j m → Put m j b k n → Put l i (a ++ b) k n
◌⨾◌ {l} {m} {n} {a} {b} {i} {j} {k} p q =
    record {
      goes = rw length-append (omega arith);
      holds = q.holds ∙ rw (p.holds, p.goes) (sets_sets l i a b);
    }

-- a write, by other words for what it wrote
pub put_as : {l m a b : List ℕ} {i j : ℕ} → a ≡ b → Put l i a j m → Put l i b j m
put_as e p = rw (← e) p

-- what was written can be read again, as the part from its start to its end
pub read_back : {l a m : List ℕ} {i j : ℕ} → Put l i a j m → j ≤ length l → take (j - i) (drop i m) ≡ a
read_back {l} {a} {m} {i} {j} p h =
    let e : j - i ≡ length a = omega (arith, p.goes) in
    rw (
      p.holds,
      sets-eq a l i (omega (arith, p.goes)),
      append_assoc,
      drop_at (take i l) (a ++ drop (i + length a) l) i (length-take-le i l (omega (arith, p.goes))),
      e,
      take-append_seam,
    )

-- a write leaves the length
pub put-length : {l a m : List ℕ} {i j : ℕ} → Put l i a j m → length m ≡ length l
put-length {l} {a} {m} {i} {j} p = rw p.holds (length-sets l i a)

-- the reader's form
pub put-overwrite : {l a m : List ℕ} {i j : ℕ} → Put l i a j m → i + length a ≤ length l → m ≡ overwrite l i a
unfolding overwrite
put-overwrite {l} {a} {m} {i} {j} p h = p.holds ∙ sets-eq a l i h
