-- The last four octets of a frame as one number, low octet first, and a check. Assumes nothing.
use Prim.Native.Nat.{ℕ, zero, suc, ◌+◌, ◌-◌, ◌*◌, ◌/◌, ◌%◌, ◌≤◌, ◌<◌}
use native.Mathlib.Omega.{arith}
use native.Mathlib.Nat.{add-zero, div-div-eq-div-mul, div-add-mod'}
use mathlib.Core.Path.{◌≡◌, refl, sym, ap, ◌∙◌}
use mathlib.Core.Bool.{false, not}
use mathlib.Core.List.{List}
use lib.ListN.{length, get_or, drop, length-drop}
use lib.Seq.{get_or-drop}
use lib.Dec.{eqb}
use borrow.Author.Tests.{eq-eqb, eqb-true}
use Rattle.line.specs.Limits.{fcs_size}
use Rattle.line.specs.Octets.{same_octets, low_first}
use Rattle.line.proofs.Octets.{same_octets-refl, same_test, same_octets-eq, same_octets-not}
use Rattle.line.proofs.Words.{Octets, low_drop, low_only}
use Rattle.fcs.specs.Fcs.{fcs_of, fcs_octets}
use Rattle.fcs.proofs.Laws.{fcs-is}
use Rattle.frame.specs.Frame.{covered, last_four, wrong_fcs}

-- the number that stands in the octets of a check is the check
pub fcs-number : (n : ℕ) → n < 0x1_0000_0000 → low_first (fcs_octets n) 0 4 ≡ n
unfolding low_first
fcs-number n h =
    let x = n / 0x100 in
    let y = n / 0x1_0000 in
    let z = n / 0x100_0000 in
    let xy : x / 256 ≡ y = div-div-eq-div-mul n 0x100 256 in
    let yz : y / 256 ≡ z = div-div-eq-div-mul n 0x1_0000 256 in
    let ex : y * 256 + x % 256 ≡ x = rw xy at (div-add-mod' x 256) in
    let ey : z * 256 + y % 256 ≡ y = rw yz at (div-add-mod' y 256) in
    omega (arith, div-add-mod' n 256)

check_octets : (n : ℕ) → Octets (fcs_octets n)
check_octets n zero = omega arith
check_octets n (suc zero) = omega arith
check_octets n (suc (suc zero)) = omega arith
check_octets n (suc (suc (suc zero))) = omega arith
check_octets n (suc (suc (suc (suc k)))) = omega arith

-- four octets are those of a check exactly when they stand for it
same_number : (l : List ℕ) (n : ℕ) → length l ≡ 4 → Octets l → n < 0x1_0000_0000 → same_octets l (fcs_octets n) ≡ eqb (low_first l 0 4) n
same_number l n e o h =
    let w = low_first l 0 4 in
    same_test (same_octets l (fcs_octets n)) (eqb w n)
    (λ s. eq-eqb w n (ap (λ (x : List ℕ). low_first x 0 4) (same_octets-eq l (fcs_octets n) s) ∙ fcs-number n h))
    (λ s. rw (low_only 4 l (fcs_octets n) o (check_octets n) e refl (eqb-true w n s ∙ sym (fcs-number n h))) (same_octets-refl (fcs_octets n)))

-- the last four octets, likewise
pub last-number : (f : List ℕ) (n : ℕ) → fcs_size ≤ length f → Octets f → n < 0x1_0000_0000
    → same_octets (last_four f) (fcs_octets n) ≡ eqb (low_first f (length f - fcs_size) 4) n
unfolding last_four
last-number f n h o hn =
    let m = length f - fcs_size in
    same_number (drop m f) n (length-drop m f ∙ omega arith) (λ k. rw (get_or-drop m f k 0) (o (m + k))) hn
    ∙ ap (λ (w : ℕ). eqb w n) (low_drop f m 0 4 ∙ ap (λ (k : ℕ). low_first f k 4) (add-zero m))

-- their number as the code makes it
pub last_sum : (f : List ℕ) → fcs_size ≤ length f
    → get_or f (length f - 4) 0 + get_or f (length f - 3) 0 * 0x100 + get_or f (length f - 2) 0 * 0x1_0000 + get_or f (length f - 1) 0 * 0x100_0000
    ≡ low_first f (length f - fcs_size) 4
unfolding low_first
last_sum f h =
    let m = length f - fcs_size in
    let at : (i j : ℕ) → i ≡ j → get_or f i 0 ≡ get_or f j 0 = λ i j e. ap (λ (k : ℕ). get_or f k 0) e in
    let p = at (m + 1) (length f - 3) (omega arith) in
    let q = at (m + 1 + 1) (length f - 2) (omega arith) in
    let r = at (m + 1 + 1 + 1) (length f - 1) (omega arith) in
    omega arith

pub last-short : (f : List ℕ) (n : ℕ) → length f < fcs_size → same_octets (last_four f) (fcs_octets n) ≡ false
unfolding last_four
last-short f n h =
    same_octets-not (drop (length f - fcs_size) f) (fcs_octets n) (λ e. omega (arith, ap length e, length-drop (length f - fcs_size) f))

-- the rule, of a check that was made of what it covers
pub wrong-by : (f : List ℕ) (n : ℕ) → n ≡ fcs_of (covered f) → not (same_octets (last_four f) (fcs_octets n)) ≡ wrong_fcs f
unfolding wrong_fcs
wrong-by f n e = ap (λ (l : List ℕ). not (same_octets (last_four f) l)) (ap fcs_octets e ∙ fcs-is (covered f))
