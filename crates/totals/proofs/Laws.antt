-- Document 02, item 9: the answer is right whenever the totals are true (`right`); counted anew after a writing they stay true (`stay_true`), no other
-- total is touched (`untouched`), and all of them counted are the true ones (`all_counted`). Assumes nothing.
use Rattle.std.specs.Prelude.{min}
use Prim.Native.Nat.{ℕ, zero, suc, ◌+◌, ◌-◌, ◌*◌, ◌/◌, ◌≤◌, ◌<◌}
use native.Mathlib.Omega.{arith}
use native.Mathlib.Nat.{le_of_suc-le-suc, not-suc-le-zero}
use mathlib.Core.Path.{◌≡◌, refl, sym, ap, ap₂, ◌∙◌}
use mathlib.Core.Bool.{Bool, true, false, cond, ◌&&◌, true≢false}
use mathlib.Core.List.{List, [], ◌∷◌, ◌++◌, append_assoc}
use lib.ListN.{length, get_or, set, take, drop, length-append, length-take, length-drop, length-set, take-append-drop}
use lib.Seq.{take-add, take_all, take-append-le, drop-append-le, drop-append-add, drop-drop, get_or-set_same, get_or-set_other, ext_get_or}
use lib.Dec.{eqb, ltb}
use borrow.Author.Tests.{lt-ltb, ltb-true, ltb-false, eqb-true, eqb-false}
use Rattle.line.specs.Limits.{block_size}
use Rattle.line.specs.Line.{Symbol, capture, is_start, start_count, overwrite}
use Rattle.line.proofs.Overwrite.{overwrite-none, length-overwrite}
use Rattle.line.proofs.Symbols.{by_test, starts-start, starts_other}
use Rattle.line.proofs.Buffers.{capture-at}
use Rattle.station.specs.Station.{total}
use Rattle.totals.specs.Totals.{blocks, starts_in, block_total, totals_from, true_totals, starts_before, answer, written_into, renewed, recounted}

and_left : (a b : Bool) → (a && b) ≡ true → a ≡ true
and_left true b h = refl
and_left false b h = h

and_right : (a b : Bool) → (a && b) ≡ true → b ≡ true
and_right true b h = h
and_right false b h = absurd (true≢false (sym h))

-- ---- counts over stretches

pub starts-append : (a b : List Symbol) → start_count (a ++ b) ≡ start_count a + start_count b
unfolding start_count
starts-append [] b = omega arith
starts-append (x ∷ a) b =
    let ih = starts-append a b in
    by_test (is_start x)
    (λ h. starts-start x (a ++ b) h ∙ ap (λ (n : ℕ). 1 + n) ih ∙ (let e = starts-start x a h in omega arith))
    (λ h. starts_other x (a ++ b) h ∙ ih ∙ ap (λ (n : ℕ). n + start_count b) (sym (starts_other x a h)))

-- up to a place, and from it on up to another
split_count : (c : List Symbol) (a n : ℕ) → start_count (take (a + n) c) ≡ start_count (take a c) + start_count (take n (drop a c))
split_count c a n = ap start_count (take-add a n c) ∙ starts-append (take a c) (take n (drop a c))

pub in_two : (c : List Symbol) (from mid to : ℕ) → from ≤ mid → mid ≤ to → starts_in c from to ≡ starts_in c from mid + starts_in c mid to
unfolding starts_in
in_two c from mid to a b =
    let n : ℕ = mid - from in
    let m : ℕ = to - mid in
    let whole : to - from ≡ n + m = omega arith in
    let there : from + n ≡ mid = omega arith in
    ap (λ (j : ℕ). start_count (take j (drop from c))) whole
    ∙ split_count (drop from c) n m
    ∙ ap (λ (l : List Symbol). start_count (take n (drop from c)) + start_count (take m l)) (drop-drop n from c ∙ ap (λ (j : ℕ). drop j c) there)

-- ---- whole blocks

pub length_from : (c : List Symbol) (k n : ℕ) → length (totals_from c k n) ≡ n
unfolding totals_from
length_from c k zero = refl
length_from c k (suc n) = ap suc (length_from c (k + 1) n)

pub get_or-from : (c : List Symbol) (k n i : ℕ) → i < n → get_or (totals_from c k n) i 0 ≡ block_total c (k + i)
unfolding totals_from
get_or-from c k zero i h = absurd (not-suc-le-zero h)
get_or-from c k (suc n) zero h = ap (block_total c) (omega arith)
get_or-from c k (suc n) (suc i) h = get_or-from c (k + 1) n i (le_of_suc-le-suc h) ∙ ap (block_total c) (omega arith)

-- m totals from block k on are the Starts of their 256 × m symbols
sum-from : (c : List Symbol) (k n m : ℕ) → m ≤ n
    → start_count (take (block_size * k) c) + total (take m (totals_from c k n)) ≡ start_count (take (block_size * (k + m)) c)
unfolding totals_from total
sum-from c k n zero h = omega (arith, ap (λ (j : ℕ). start_count (take (block_size * j) c)) (let e : k + 0 ≡ k = omega arith in e))
sum-from c k zero (suc m) h = absurd (not-suc-le-zero h)
sum-from c k (suc n) (suc m) h =
    let ih = sum-from c (k + 1) n m (le_of_suc-le-suc h) in
    let one : start_count (take (block_size * (k + 1)) c) ≡ start_count (take (block_size * k) c) + block_total c k =
    ap (λ (j : ℕ). start_count (take j c)) (let e : block_size * (k + 1) ≡ block_size * k + block_size = omega arith in e)
    ∙ split_count c (block_size * k) block_size ∙ (unfold block_total in refl) in
    let last : start_count (take (block_size * (k + 1 + m)) c) ≡ start_count (take (block_size * (k + suc m)) c) =
    ap (λ (j : ℕ). start_count (take (block_size * j) c)) (let e : k + 1 + m ≡ k + suc m = omega arith in e) in
    omega arith

-- "equals a count over everything before the place": "right whenever the totals are true"
pub right : (c : List Symbol) (ts : List ℕ) (place : ℕ) → ts ≡ true_totals c → place ≤ length c → answer ts c place ≡ starts_before c place
unfolding answer starts_before starts_in true_totals
right c ts place e h =
    let m : ℕ = place / block_size in
    let whole : m ≤ blocks (length c) = omega arith in
    let sum = sum-from c 0 (blocks (length c)) m whole in
    let none : start_count (take (block_size * 0) c) ≡ 0 = (unfold start_count in refl) in
    let at : block_size * (0 + m) ≡ block_size * m = omega arith in
    let sum' : total (take m (totals_from c 0 (blocks (length c)))) ≡ start_count (take (block_size * m) c) =
    (let z = ap (λ (j : ℕ). start_count (take j c)) at in omega arith) in
    let rest : block_size * m + (place - block_size * m) ≡ place = omega arith in
    ap (λ (l : List ℕ). total (take m l) + start_count (take (place - block_size * m) (drop (block_size * m) c))) e
    ∙ ap (λ (n : ℕ). n + start_count (take (place - block_size * m) (drop (block_size * m) c))) sum'
    ∙ sym (split_count c (block_size * m) (place - block_size * m))
    ∙ ap (λ (j : ℕ). start_count (take j c)) rest

-- ---- totals made new

pub length-renewed : (test : ℕ → Bool) (new : ℕ → ℕ) (k : ℕ) (ts : List ℕ) → length (renewed test new k ts) ≡ length ts
unfolding renewed
length-renewed test new k [] = refl
length-renewed test new k (t ∷ ts) = ap suc (length-renewed test new (k + 1) ts)

pub get_or-renewed : (test : ℕ → Bool) (new : ℕ → ℕ) (k : ℕ) (ts : List ℕ) (i : ℕ) → i < length ts
    → get_or (renewed test new k ts) i 0 ≡ cond (test (k + i)) (new (k + i)) (get_or ts i 0)
unfolding renewed
get_or-renewed test new k [] i h = absurd (not-suc-le-zero h)
get_or-renewed test new k (t ∷ ts) zero h = ap (λ (j : ℕ). cond (test j) (new j) t) (let e : k ≡ k + 0 = omega arith in e)
get_or-renewed test new k (t ∷ ts) (suc i) h =
    get_or-renewed test new (k + 1) ts i (le_of_suc-le-suc h)
    ∙ ap (λ (j : ℕ). cond (test j) (new j) (get_or ts i 0)) (let e : k + 1 + i ≡ k + suc i = omega arith in e)

-- the total at i, counted anew or as it was
pub get_or-recounted : (c : List Symbol) (from to : ℕ) (ts : List ℕ) (i : ℕ) → i < length ts
    → get_or (recounted c from to ts) i 0 ≡ cond (written_into from to i) (block_total c i) (get_or ts i 0)
unfolding recounted
get_or-recounted c from to ts i h =
    get_or-renewed (written_into from to) (block_total c) 0 ts i h
    ∙ ap (λ (j : ℕ). cond (written_into from to j) (block_total c j) (get_or ts i 0)) (let e : 0 + i ≡ i = omega arith in e)

pub length-recounted : (c : List Symbol) (from to : ℕ) (ts : List ℕ) → length (recounted c from to ts) ≡ length ts
unfolding recounted
length-recounted c from to ts = length-renewed (written_into from to) (block_total c) 0 ts

-- which blocks are written into
pub into : (from to k : ℕ) → from < to → from < block_size * (k + 1) → block_size * k < to → written_into from to k ≡ true
unfolding written_into
into from to k a b d = rw (lt-ltb _ _ a, lt-ltb _ _ b, lt-ltb _ _ d)

pub into_not : (from to k : ℕ) → (from < to → from < block_size * (k + 1) → block_size * k < to → ⊥) → written_into from to k ≡ false
unfolding written_into
into_not from to k never =
    by_test (ltb from to)
    (λ a. by_test (ltb from (block_size * (k + 1)))
    (λ b. by_test (ltb (block_size * k) to)
    (λ d. absurd (never (ltb-true _ _ a) (ltb-true _ _ b) (ltb-true _ _ d)))
    (λ d. rw (a, b, d)))
    (λ b. rw (a, b)))
    (λ a. rw a)

pub was_into : (from to k : ℕ) → written_into from to k ≡ true → (from < to) × (from < block_size * (k + 1)) × (block_size * k < to)
unfolding written_into
was_into from to k w =
    let x : Bool = ltb from to in
    let y : Bool = ltb from (block_size * (k + 1)) in
    let z : Bool = ltb (block_size * k) to in
    let yz = and_right x (y && z) w in
    (ltb-true from to (and_left x (y && z) w), ltb-true from (block_size * (k + 1)) (and_left y z yz), ltb-true (block_size * k) to (and_right y z yz))

lower : (i k : ℕ) → (i ≡ k → ⊥) → i ≤ k → i < k
lower i k q h = omega arith

-- "touches no other total"
pub untouched : (c : List Symbol) (from to : ℕ) (ts : List ℕ) (i : ℕ) → i < length ts
    → written_into from to i ≡ false → get_or (recounted c from to ts) i 0 ≡ get_or ts i 0
untouched c from to ts i h e = get_or-recounted c from to ts i h ∙ ap (λ (b : Bool). cond b (block_total c i) (get_or ts i 0)) e

-- a writing of no symbols counts nothing anew
pub none-recounted : (c : List Symbol) (from to : ℕ) (ts : List ℕ) → to ≤ from → recounted c from to ts ≡ ts
none-recounted c from to ts none =
    ext_get_or 0 (recounted c from to ts) ts (length-recounted c from to ts)
    (λ i h. untouched c from to ts i (let n = length-recounted c from to ts in omega arith) (into_not from to i (λ a b d. omega arith)))

-- ---- what is not written into keeps its Starts

-- a stretch before the writing, and one behind it
before-kept : {A : Type 0} (c : List A) (at : ℕ) (new : List A) (from n : ℕ) → from + n ≤ at → at ≤ length c
    → take n (drop from (overwrite c at new)) ≡ take n (drop from c)
unfolding overwrite
before-kept c at new from n h inside =
    let front : length (take at c) ≡ at = length-take at c ∙ omega arith in
    let low : from ≤ length (take at c) = omega arith in
    let d : drop from (take at c ++ (new ++ drop (at + length new) c)) ≡ drop from (take at c) ++ (new ++ drop (at + length new) c) =
    drop-append-le from (take at c) (new ++ drop (at + length new) c) low in
    let room : n ≤ length (drop from (take at c)) = (let k = length-drop from (take at c) in omega arith) in
    let whole : drop from c ≡ drop from (take at c) ++ drop at c =
    ap (drop from) (sym (take-append-drop at c)) ∙ drop-append-le from (take at c) (drop at c) low in
    ap (take n) (ap (drop from) (append_assoc (take at c) new (drop (at + length new) c)) ∙ d)
    ∙ take-append-le n (drop from (take at c)) (new ++ drop (at + length new) c) room
    ∙ sym (ap (take n) whole ∙ take-append-le n (drop from (take at c)) (drop at c) room)

behind-kept : {A : Type 0} (c : List A) (at : ℕ) (new : List A) (from : ℕ) → at + length new ≤ from → at + length new ≤ length c
    → drop from (overwrite c at new) ≡ drop from c
unfolding overwrite
behind-kept c at new from h inside =
    let front : length (take at c ++ new) ≡ at + length new = length-append (take at c) new ∙ (let k = length-take at c in omega arith) in
    let rest : from ≡ length (take at c ++ new) + (from - (at + length new)) = omega arith in
    ap (λ (j : ℕ). drop j (take at c ++ new ++ drop (at + length new) c)) rest
    ∙ drop-append-add (take at c ++ new) (drop (at + length new) c) (from - (at + length new))
    ∙ drop-drop (from - (at + length new)) (at + length new) c
    ∙ ap (λ (j : ℕ). drop j c) (let e : at + length new + (from - (at + length new)) ≡ from = omega arith in e)

empty : {A : Type 0} (l : List A) → length l ≤ 0 → l ≡ []
empty [] h = refl
empty (x ∷ l) h = absurd (not-suc-le-zero h)

block_kept : (c : List Symbol) (at : ℕ) (new : List Symbol) (k : ℕ) → at + length new ≤ length c → written_into at (at + length new) k ≡ false
    → block_total (overwrite c at new) k ≡ block_total c k
unfolding block_total
block_kept c at new k inside e =
    by_test (ltb at (block_size * (k + 1)))
    (λ b. by_test (ltb (block_size * k) (at + length new))
    (λ d. by_test (ltb at (at + length new))
    (λ a. absurd (true≢false (sym (into at (at + length new) k (ltb-true _ _ a) (ltb-true _ _ b) (ltb-true _ _ d)) ∙ e)))
    (λ a. let z : at + length new ≤ at = ltb-false at (at + length new) a in
    let none : length new ≤ 0 = omega arith in
    ap (λ (l : List Symbol). start_count (take block_size (drop (block_size * k) (overwrite c at l)))) (empty new none)
    ∙ ap (λ (l : List Symbol). start_count (take block_size (drop (block_size * k) l))) (overwrite-none c at)))
    (λ d. ap (λ (l : List Symbol). start_count (take block_size l)) (behind-kept c at new (block_size * k) (ltb-false _ _ d) inside)))
    (λ b. ap start_count (before-kept c at new (block_size * k) block_size
    (let z : block_size * (k + 1) ≤ at = ltb-false at (block_size * (k + 1)) b in omega arith) (omega arith)))

-- counted anew, true totals stay true
pub stay_true : (c : List Symbol) (at : ℕ) (new : List Symbol) (ts : List ℕ) → at + length new ≤ length c → ts ≡ true_totals c
    → recounted (overwrite c at new) at (at + length new) ts ≡ true_totals (overwrite c at new)
unfolding true_totals
stay_true c at new ts inside e =
    let c' : List Symbol = overwrite c at new in
    let to : ℕ = at + length new in
    let same : length c' ≡ length c = length-overwrite c at new inside in
    let count : length ts ≡ blocks (length c) = ap length e ∙ length_from c 0 (blocks (length c)) in
    let count' : length ts ≡ blocks (length c') = count ∙ ap blocks (sym same) in
    ext_get_or 0 (recounted c' at to ts) (totals_from c' 0 (blocks (length c')))
    (length-recounted c' at to ts ∙ count' ∙ sym (length_from c' 0 (blocks (length c'))))
    (λ i h. let lt : i < length ts = (let n = length-recounted c' at to ts in omega arith) in
    let old : get_or ts i 0 ≡ block_total c i =
    ap (λ (l : List ℕ). get_or l i 0) e ∙ get_or-from c 0 (blocks (length c)) i (omega arith) ∙ ap (block_total c) (let z : 0 + i ≡ i = omega arith in z) in
    let meant : get_or (totals_from c' 0 (blocks (length c'))) i 0 ≡ block_total c' i =
    get_or-from c' 0 (blocks (length c')) i (omega arith) ∙ ap (block_total c') (let z : 0 + i ≡ i = omega arith in z) in
    by_test (written_into at to i)
    (λ w. get_or-recounted c' at to ts i lt ∙ ap (λ (b : Bool). cond b (block_total c' i) (get_or ts i 0)) w ∙ sym meant)
    (λ w. untouched c' at to ts i lt w ∙ old ∙ sym (block_kept c at new i inside w) ∙ sym meant))

-- all of them counted are the true ones
pub all_counted : (c : List Symbol) (ts : List ℕ) → length ts ≡ blocks (length c) → recounted c 0 (length c) ts ≡ true_totals c
unfolding true_totals
all_counted c ts count =
    ext_get_or 0 (recounted c 0 (length c) ts) (totals_from c 0 (blocks (length c)))
    (length-recounted c 0 (length c) ts ∙ count ∙ sym (length_from c 0 (blocks (length c))))
    (λ i h. let lt : i < length ts = (let n = length-recounted c 0 (length c) ts in omega arith) in
    let w : written_into 0 (length c) i ≡ true = into 0 (length c) i (omega arith) (omega arith) (omega arith) in
    get_or-recounted c 0 (length c) ts i lt
    ∙ ap (λ (b : Bool). cond b (block_total c i) (get_or ts i 0)) w
    ∙ sym (get_or-from c 0 (blocks (length c)) i (omega arith) ∙ ap (block_total c) (let z : 0 + i ≡ i = omega arith in z)))

-- ---- one turn of the loops

-- one symbol more of a stretch
in_front : (x : Symbol) (l : List Symbol) → start_count (x ∷ l) ≡ cond (is_start x) 1 0 + start_count l
in_front x l =
    by_test (is_start x)
    (λ h. starts-start x l h ∙ ap (λ (b : Bool). cond b 1 0 + start_count l) (sym h))
    (λ h. starts_other x l h ∙ (let e : start_count l ≡ 0 + start_count l = omega arith in e) ∙ ap (λ (b : Bool). cond b 1 0 + start_count l) (sym h))

pub one_more : (os ms : List ℕ) (i to : ℕ) → i < to → to ≤ length os → to ≤ length ms
    → starts_in (capture os ms) i to ≡ cond (is_start (record { octet = get_or os i 0; mark = get_or ms i 0 })) 1 0 + starts_in (capture os ms) (i + 1) to
unfolding starts_in
one_more os ms i to h ro rm =
    let x : Symbol = record { octet = get_or os i 0; mark = get_or ms i 0 } in
    let t : List Symbol = drop (i + 1) (capture os ms) in
    let less : to - i ≡ suc (to - (i + 1)) = omega arith in
    ap₂ (λ (n : ℕ) (l : List Symbol). start_count (take n l)) less (capture-at os ms i (omega arith) (omega arith))
    ∙ in_front x (take (to - (i + 1)) t)

pub none_left : (c : List Symbol) (i to : ℕ) → to ≤ i → starts_in c i to ≡ 0
unfolding starts_in start_count
none_left c i to h = ap (λ (n : ℕ). start_count (take n (drop i c))) (let e : to - i ≡ 0 = omega arith in e)

-- a whole block, and a last short one
pub block_is : (c : List Symbol) (k to : ℕ) → to ≡ block_size * k + block_size → starts_in c (block_size * k) to ≡ block_total c k
unfolding starts_in block_total
block_is c k to e = ap (λ (n : ℕ). start_count (take n (drop (block_size * k) c))) (let h : to - block_size * k ≡ block_size = omega arith in h)

pub short_block : (c : List Symbol) (k to : ℕ) → to ≡ length c → to ≤ block_size * k + block_size → starts_in c (block_size * k) to ≡ block_total c k
unfolding starts_in block_total
short_block c k to e h =
    let l : List Symbol = drop (block_size * k) c in
    let n : length l ≡ length c - block_size * k = length-drop (block_size * k) c in
    ap start_count (take_all (to - block_size * k) l (omega arith) ∙ sym (take_all block_size l (omega arith)))

-- either one
pub block_to : (c : List Symbol) (k to : ℕ) → block_size * k ≤ length c → to ≡ block_size * k + min (length c - block_size * k) block_size
    → starts_in c (block_size * k) to ≡ block_total c k
block_to c k to within e =
    by_test (ltb (length c) (block_size * k + block_size))
    (λ t. let h = ltb-true (length c) (block_size * k + block_size) t in short_block c k to (omega arith) (omega arith))
    (λ t. let h = ltb-false (length c) (block_size * k + block_size) t in block_is c k to (omega arith))

-- blocks counted up to block k, and up to the next
pub begin : (c : List Symbol) (from : ℕ) (ts : List ℕ) → recounted c from (block_size * (from / block_size)) ts ≡ ts
begin c from ts =
    ext_get_or 0 (recounted c from (block_size * (from / block_size)) ts) ts (length-recounted c from (block_size * (from / block_size)) ts)
    (λ i h. untouched c from _ ts i (let n = length-recounted c from (block_size * (from / block_size)) ts in omega arith)
    (into_not from _ i (λ a b d. omega arith)))

pub turn : (c : List Symbol) (from k : ℕ) (ts : List ℕ) → from / block_size ≤ k → k < length ts
    → set (recounted c from (block_size * k) ts) k (block_total c k) ≡ recounted c from (block_size * (k + 1)) ts
turn c from k ts low high =
    let a : List ℕ = recounted c from (block_size * k) ts in
    let n = length-recounted c from (block_size * k) ts in
    let n' = length-recounted c from (block_size * (k + 1)) ts in
    let s = length-set a k (block_total c k) in
    ext_get_or 0 (set a k (block_total c k)) (recounted c from (block_size * (k + 1)) ts) (omega arith)
    (λ i h. let lt : i < length ts = omega arith in
    by_test (eqb i k)
    (λ e. let q : i ≡ k = eqb-true i k e in
    ap (λ (j : ℕ). get_or (set a k (block_total c k)) j 0) q
    ∙ get_or-set_same a k (block_total c k) 0 (omega arith)
    ∙ ap (block_total c) (sym q)
    ∙ sym (get_or-recounted c from (block_size * (k + 1)) ts i lt
    ∙ ap (λ (b : Bool). cond b (block_total c i) (get_or ts i 0)) (into from (block_size * (k + 1)) i (omega arith) (omega arith) (omega arith))))
    (λ e. let q : i ≡ k → ⊥ = eqb-false i k e in
    get_or-set_other a k i (block_total c k) 0 q
    ∙ get_or-recounted c from (block_size * k) ts i lt
    ∙ ap (λ (b : Bool). cond b (block_total c i) (get_or ts i 0)) (same_into i q)
    ∙ sym (get_or-recounted c from (block_size * (k + 1)) ts i lt)))
  where
    same_into : (i : ℕ) → (i ≡ k → ⊥) → written_into from (block_size * k) i ≡ written_into from (block_size * (k + 1)) i
    same_into i q =
        by_test (written_into from (block_size * k) i)
        (λ w. let x = was_into from (block_size * k) i w in w ∙ sym (into from (block_size * (k + 1)) i (omega arith) (omega arith) (omega arith)))
        (λ w. w ∙ sym (into_not from (block_size * (k + 1)) i
        (λ x y z. let ne : i < k = lower i k q (omega arith) in true≢false (sym (into from (block_size * k) i (omega arith) y (omega arith)) ∙ w))))

pub end : (c : List Symbol) (from to k : ℕ) (ts : List ℕ) → from < to → k ≡ (to - 1) / block_size + 1
    → recounted c from (block_size * k) ts ≡ recounted c from to ts
end c from to k ts lt e =
    let n = length-recounted c from (block_size * k) ts in
    let n' = length-recounted c from to ts in
    ext_get_or 0 (recounted c from (block_size * k) ts) (recounted c from to ts) (omega arith)
    (λ i h. get_or-recounted c from (block_size * k) ts i (omega arith)
    ∙ ap (λ (b : Bool). cond b (block_total c i) (get_or ts i 0)) (same_into i)
    ∙ sym (get_or-recounted c from to ts i (omega arith)))
  where
    same_into : (i : ℕ) → written_into from (block_size * k) i ≡ written_into from to i
    same_into i =
        by_test (written_into from to i)
        (λ w. let x = was_into from to i w in into from (block_size * k) i (omega arith) (omega arith) (omega arith) ∙ sym w)
        (λ w. into_not from (block_size * k) i (λ x y z. true≢false (sym (into from to i lt y (omega arith)) ∙ w)) ∙ sym w)
