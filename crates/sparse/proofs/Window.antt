-- The window: what its functions write, one octet more at a time, and the 300 octets that are left at the end.
-- Assumes nothing.
use mathlib.Core.Path.{◌≡◌, refl, sym, ap, ap₂, ◌∙◌, subst}
use mathlib.Core.Logic.{◌⊎◌, inl, inr, ⊎_elim}
use mathlib.Core.List.{List, [], ◌∷◌, ◌++◌}
use Prim.Native.Nat.{ℕ, zero, suc, ◌+◌, ◌*◌, ◌/◌, ◌%◌, ◌-◌, ◌^◌, ◌≤◌, ◌<◌, zero-le, suc-le-suc}
use native.Mathlib.Nat.{add-zero}
use native.Mathlib.Numerals.{add-one}
use native.Mathlib.Omega.{arith}
use lib.Bits.{bit_xor, xor_assoc, xor_comm, xor_zero_l, xor_zero_r, xor_lt, xor_block}
use lib.Dec.{lit<}
use lib.ListN.{length, get_or, take, drop, set, length-drop, get_or-eq_default}
use lib.Seq.{get_or-set_other, get_or-take, get_or-drop, ext_get_or, length-take-le, drop-cons, drop-set-add, take-set-le, take-suc, take-suc-set}
use Rattle.std.proofs.lemmas.Nat.{from_le_bytes-to_le_bytes_4}
use Rattle.std.specs.Int.{w32, to_le_bytes}
use Rattle.crc.specs.Crc.{crc_over}
use Rattle.crc.specs.Words.{crc_zeros, word}
use Rattle.crc.proofs.Linear.{bytes_take, over_word}
use Rattle.sparse.specs.Octets.{out_of, came, carried_on, Cut, Moved, Cleared, Ended}
use Rattle.sparse.proofs.Octets.{Bytes, octet-taken}

less : (a b : ℕ) → (a < b) ⊎ (b ≤ a)
less a zero = inr zero-le
less zero (suc b) = inl (suc-le-suc zero-le)
less (suc a) (suc b) = ⊎_elim (λ p. inl (suc-le-suc p)) (λ p. inr (suc-le-suc p)) (less a b)

-- ---- what came out last

bytes_drop : (n : ℕ) (s : List ℕ) → Bytes s → Bytes (drop n s)
bytes_drop n s b k = rw get_or-drop (b (n + k))

pub bytes_set : (w : List ℕ) (i v : ℕ) → Bytes w → v < 256 → Bytes (set w i v)
bytes_set [] i v b h k = b k
bytes_set (o ∷ w) zero v b h zero = h
bytes_set (o ∷ w) zero v b h (suc k) = b (suc k)
bytes_set (o ∷ w) (suc i) v b h zero = b 0
bytes_set (o ∷ w) (suc i) v b h (suc k) = bytes_set w i v (λ j. b (suc j)) h k

came-at : (w : List ℕ) (i k : ℕ) → k < 300 → get_or (came w i) k 0 ≡ get_or w (i + k) 0
came-at w i k l = get_or-take 300 (drop i w) k 0 l ∙ get_or-drop i w k 0

came-long : (w : List ℕ) (i : ℕ) → i + 300 ≤ length w → length (came w i) ≡ 300
came-long w i h = length-take-le 300 (drop i w) (simp length-drop (omega arith))

came_bytes : (w : List ℕ) (i : ℕ) → Bytes w → Bytes (came w i)
came_bytes w i b = bytes_take 300 (drop i w) (bytes_drop i w b)

-- one more: the first goes, and the new one stands last
came-next : (w : List ℕ) (i v : ℕ) → i + 301 ≤ length w → came (set w (i + 300) v) (i + 1) ≡ drop 1 (came w i) ++ v ∷ []
came-next w i v h =
    let e : i + 300 ≡ i + 1 + 299 = omega arith in
    let n : i + 1 ≡ suc i = omega arith in
    let room : 299 < length (drop (i + 1) w) = simp length-drop (omega arith) in
    ap (λ (j : ℕ). take 300 (drop (i + 1) (set w j v))) e
    ∙ ap (take 300) (drop-set-add (i + 1) w 299 v)
    ∙ take-suc-set (drop (i + 1) w) 299 v room
    ∙ ap (λ (l : List ℕ). l ++ v ∷ []) (ap (λ (j : ℕ). take 299 (drop j w)) n ∙ sym (ap (λ (l : List ℕ). drop 1 (take 300 l)) (drop-cons w i 0 (omega arith))))

pub cut-none : (s w : List ℕ) (at : ℕ) → Cut 0 at s w w
cut-none s w at = ap (λ (n : ℕ). crc_over (carried_on (take 300 w)) (drop n s)) (add-zero at)

pub cut_more : (s before w : List ℕ) (at i v : ℕ) → Bytes s → Bytes w → v < 256 → i + 301 ≤ length w → at + i + 301 ≤ length s → v ≡ out_of w s at i
    → Cut i at s before w → Cut (i + 1) at s before (set w (i + 300) v)
cut_more s before w at i v bs bw below room fits e cut =
    let h = came w i in
    let here : (k : ℕ) → k < 300 → get_or w (i + k) 0 ≡ get_or h k 0 = λ k l. sym (came-at w i k l) in
    let comes : v ≡ bit_xor (bit_xor (bit_xor (bit_xor (get_or s (at + i) 0) (get_or h 155 0)) (get_or h 117 0)) (get_or h 89 0)) (get_or h 0 0) =
    e ∙ ap₂ bit_xor (ap₂ bit_xor (ap₂ bit_xor (ap (bit_xor (get_or s (at + i) 0)) (here 155 (lit< tt))) (here 117 (lit< tt))) (here 89 (lit< tt)))
    (ap (λ (j : ℕ). get_or w j 0) (sym (add-zero i)) ∙ here 0 (lit< tt)) in
    let p : at + (i + 1) ≡ at + i + 1 = omega arith in
    ap₂ (λ (l : List ℕ) (n : ℕ). crc_over (carried_on l) (drop n s)) (came-next w i v room) p
    ∙ octet-taken h (came-long w i (omega arith)) (came_bytes w i bw) s (at + i) v bs fits below comes
    ∙ cut

-- ---- octets that are moved, cleared, and those at the end

pub move_more : (before w : List ℕ) (i : ℕ) → length w ≡ length before → i + 960 < length w → Moved i before w
    → Moved (i + 1) before (set (set w i (get_or w (i + 960) 0)) (i + 960) 0)
move_more before w i long h m =
    let v = get_or w (i + 960) 0 in
    let a : i + 960 ≡ 960 + i = omega arith in
    let same : v ≡ get_or (drop 960 before) i 0 =
    m.1 (i + 960) (omega arith) ∙ ap (λ (j : ℕ). get_or before j 0) a ∙ sym (get_or-drop 960 before i 0) in
    let front : take (suc i) (set (set w i v) (i + 960) 0) ≡ take (suc i) (drop 960 before) =
    take-set-le (suc i) (set w i v) (i + 960) 0 (omega arith) ∙ take-suc-set w i v (omega arith)
    ∙ ap₂ (λ (l : List ℕ) (x : ℕ). l ++ x ∷ []) m.0 same ∙ sym (take-suc (drop 960 before) i 0 (simp length-drop (omega arith))) in
    let behind : (j : ℕ) → suc i + 960 ≤ j → get_or (set (set w i v) (i + 960) 0) j 0 ≡ get_or before j 0 =
    λ j l. get_or-set_other (set w i v) (i + 960) j 0 0 (λ p. omega arith) ∙ get_or-set_other w i j v 0 (λ p. omega arith) ∙ m.1 j (omega arith) in
    rw add-one (front, behind)

-- ---- two lists xored octet by octet, the shorter with 0 behind it

abbrev xored : List ℕ → List ℕ → List ℕ
xored [] t = t
xored (o ∷ s) [] = o ∷ s
xored (o ∷ s) (p ∷ t) = bit_xor o p ∷ xored s t

at-xored : (s t : List ℕ) (j : ℕ) → get_or (xored s t) j 0 ≡ bit_xor (get_or s j 0) (get_or t j 0)
at-xored [] t j = sym (xor_zero_l (get_or t j 0))
at-xored (o ∷ s) [] j = sym (xor_zero_r (get_or (o ∷ s) j 0))
at-xored (o ∷ s) (p ∷ t) zero = refl
at-xored (o ∷ s) (p ∷ t) (suc j) = at-xored s t j

length-xored : (s t : List ℕ) → length s ≤ length t → length (xored s t) ≡ length t
length-xored [] t h = refl
length-xored (o ∷ s) [] h = omega arith
length-xored (o ∷ s) (p ∷ t) h = ap suc (length-xored s t (omega arith))

word-xored : (s t : List ℕ) → Bytes s → Bytes t → word (xored s t) ≡ bit_xor (word s) (word t)
word-xored [] t a b = sym (xor_zero_l (word t))
word-xored (o ∷ s) [] a b = sym (xor_zero_r (word (o ∷ s)))
word-xored (o ∷ s) (p ∷ t) a b =
    let up : (x y : ℕ) → x + y * 256 ≡ y * 256 + x = λ x y. omega arith in
    up (bit_xor o p) (word (xored s t)) ∙ ap (λ (x : ℕ). x * 256 + bit_xor o p) (word-xored s t (λ k. a (suc k)) (λ k. b (suc k)))
    ∙ sym (ap₂ bit_xor (up o (word s)) (up p (word t)) ∙ xor_block 8 (word s) (word t) o p (a 0) (b 0))

bytes_xored : (s t : List ℕ) → Bytes s → Bytes t → Bytes (xored s t)
bytes_xored s t a b k = subst (λ (x : ℕ). x < 256) (sym (at-xored s t k)) (xor_lt 8 (get_or s k 0) (get_or t k 0) (a k) (b k))

-- ---- the end

-- what is carried on, as 300 octets
abbrev octets_on : List ℕ → List ℕ
octets_on h = xored (drop 155 h) (xored (drop 117 h) (xored (drop 89 h) h))

word_on : (h : List ℕ) → Bytes h → word (octets_on h) ≡ carried_on h
word_on h b =
    let b89 = bytes_xored (drop 89 h) h (bytes_drop 89 h b) b in
    let b117 = bytes_xored (drop 117 h) (xored (drop 89 h) h) (bytes_drop 117 h b) b89 in
    word-xored (drop 155 h) (xored (drop 117 h) (xored (drop 89 h) h)) (bytes_drop 155 h b) b117
    ∙ ap (bit_xor (word (drop 155 h))) (word-xored (drop 117 h) (xored (drop 89 h) h) (bytes_drop 117 h b) b89
    ∙ ap (bit_xor (word (drop 117 h))) (word-xored (drop 89 h) h (bytes_drop 89 h b) b))

bytes_on : (h : List ℕ) → Bytes h → Bytes (octets_on h)
bytes_on h b =
    bytes_xored (drop 155 h) (xored (drop 117 h) (xored (drop 89 h) h)) (bytes_drop 155 h b)
    (bytes_xored (drop 117 h) (xored (drop 89 h) h) (bytes_drop 117 h b) (bytes_xored (drop 89 h) h (bytes_drop 89 h b) b))

length_on : (h : List ℕ) → length (octets_on h) ≡ length h
length_on h =
    let x89 = xored (drop 89 h) h in
    let x117 = xored (drop 117 h) x89 in
    let n89 : length x89 ≡ length h = length-xored (drop 89 h) h (simp length-drop (omega arith)) in
    let n117 : length x117 ≡ length h = length-xored (drop 117 h) x89 (simp length-drop (omega arith)) ∙ n89 in
    length-xored (drop 155 h) x117 (simp length-drop (omega arith)) ∙ n117

at_on : (h : List ℕ) (j : ℕ) → get_or (octets_on h) j 0 ≡ bit_xor (get_or h (155 + j) 0) (bit_xor (get_or h (117 + j) 0) (bit_xor (get_or h (89 + j) 0) (get_or h j 0)))
at_on h j =
    at-xored (drop 155 h) (xored (drop 117 h) (xored (drop 89 h) h)) j
    ∙ ap₂ bit_xor (get_or-drop 155 h j 0) (at-xored (drop 117 h) (xored (drop 89 h) h) j
    ∙ ap₂ bit_xor (get_or-drop 117 h j 0) (at-xored (drop 89 h) h j ∙ ap (λ (x : ℕ). bit_xor x (get_or h j 0)) (get_or-drop 89 h j 0)))

-- a message of as many octets as are carried on: xored with them it leaves from register 0 what it leaves from what is carried on
joined : (h t : List ℕ) → Bytes h → Bytes t → length h ≡ length t → crc_over 0 (xored (octets_on h) t) ≡ crc_over (carried_on h) t
joined h t a b e =
    let u = xored (octets_on h) t in
    let long : length u ≡ length t = length-xored (octets_on h) t (rw length_on (omega arith)) in
    over_word 0 u (bytes_xored (octets_on h) t (bytes_on h a) b)
    ∙ ap₂ crc_zeros long (xor_zero_l (word u) ∙ word-xored (octets_on h) t (bytes_on h a) b ∙ ap (λ (x : ℕ). bit_xor x (word t)) (word_on h a))
    ∙ sym (over_word (carried_on h) t b)

pub ended : (s w last : List ℕ) (at n : ℕ) → length s ≡ at + n + 300 → n + 600 ≤ length w → 300 ≤ length last → Bytes s → Bytes w
    → ((j : ℕ) → j < 300 → get_or w (n + 300 + j) 0 ≡ 0) → ((j : ℕ) → j < 300 → get_or last j 0 ≡ out_of w s at (n + j))
    → crc_over 0 (take 300 last) ≡ crc_over (carried_on (came w n)) (drop (at + n) s)
ended s w last at n fits room front bs bw clear end =
    let h = came w n in
    let t = drop (at + n) s in
    let long : length h ≡ 300 = came-long w n (omega arith) in
    let left : length t ≡ 300 = simp length-drop (omega arith) in
    let few : length (take 300 last) ≡ 300 = length-take-le 300 last front in
    let here : (j : ℕ) → j < 600 → get_or w (n + j) 0 ≡ get_or h j 0 =
    λ j l. ⊎_elim (λ (p : j < 300). sym (came-at w n j p))
    (λ (p : 300 ≤ j). (let e : n + j ≡ n + 300 + (j - 300) = omega arith in ap (λ (k : ℕ). get_or w k 0) e) ∙ clear (j - 300) (omega arith)
    ∙ sym (get_or-eq_default h 0 (simp long p))) (less j 300) in
    let place : (j d : ℕ) → j < 300 → d < 300 → get_or w (n + j + d) 0 ≡ get_or h (d + j) 0 =
    λ j d l k. (let e : n + j + d ≡ n + (d + j) = omega arith in ap (λ (i : ℕ). get_or w i 0) e) ∙ here (d + j) (omega arith) in
    let same : (j : ℕ) → j < 300 → get_or last j 0 ≡ bit_xor (get_or (octets_on h) j 0) (get_or t j 0) =
    λ j l.
    let o = get_or s (at + (n + j)) 0 in
    let a = get_or h (155 + j) 0 in
    let c = get_or h (117 + j) 0 in
    let d = get_or h (89 + j) 0 in
    let f = get_or h j 0 in
    end j l
    ∙ ap₂ bit_xor (ap₂ bit_xor (ap₂ bit_xor (ap (bit_xor o) (place j 155 l (lit< tt))) (place j 117 l (lit< tt))) (place j 89 l (lit< tt))) (here j (omega arith))
    ∙ xor_assoc (bit_xor (bit_xor o a) c) d f ∙ xor_assoc (bit_xor o a) c (bit_xor d f) ∙ xor_assoc o a (bit_xor c (bit_xor d f))
    ∙ xor_comm o (bit_xor a (bit_xor c (bit_xor d f)))
    ∙ ap₂ bit_xor (sym (at_on h j)) ((let e : at + (n + j) ≡ at + n + j = omega arith in ap (λ (i : ℕ). get_or s i 0) e) ∙ sym (get_or-drop (at + n) s j 0)) in
    ap (crc_over 0) (ext_get_or 0 (take 300 last) (xored (octets_on h) t)
    (few ∙ sym (length-xored (octets_on h) t (rw length_on (omega arith)) ∙ left))
    (λ j l. (let k : j < 300 = subst (λ (m : ℕ). j < m) few l in get_or-take 300 last j 0 k ∙ same j k ∙ sym (at-xored (octets_on h) t j))))
    ∙ joined h t (came_bytes w n bw) (bytes_drop (at + n) s bs) (long ∙ sym left)

-- the last octets taken off, a place behind them cleared, and the end
pub shortened : (s w w₁ w₂ w₃ : List ℕ) (at n : ℕ) → length s ≡ at + n + 300 → n ≤ 960 → length w₁ ≡ 1560 → length w₂ ≡ 1560 → length w₃ ≡ 1560
    → Bytes s → Bytes w₂ → Cut n at s w w₁ → Cleared 300 (n + 300) w₁ w₂ → Ended 300 at n s w₂ w₃
    → crc_over 0 (take 300 w₃) ≡ crc_over (carried_on (take 300 w)) (drop at s)
shortened s w w₁ w₂ w₃ at n fits few l₁ l₂ l₃ bs b₂ cut cleared end =
    let same : came w₂ n ≡ came w₁ n =
    ext_get_or 0 (came w₂ n) (came w₁ n) (came-long w₂ n (omega arith) ∙ sym (came-long w₁ n (omega arith)))
    (λ j h. (let k : j < 300 = subst (λ (m : ℕ). j < m) (came-long w₂ n (omega arith)) h in
    came-at w₂ n j k ∙ cleared.1 (n + j) (omega arith) ∙ sym (came-at w₁ n j k))) in
    ended s w₂ w₃ at n fits (omega arith) (omega arith) bs b₂ cleared.0 end.0
    ∙ ap (λ (l : List ℕ). crc_over (carried_on l) (drop (at + n) s)) same ∙ cut

-- ---- the beginning

-- octets that are 0, from k on
word_none : (k n : ℕ) (s : List ℕ) → ((j : ℕ) → j < n → get_or s j 0 ≡ 0) → word (drop k (take n s)) ≡ 0
word_none zero zero s z = refl
word_none zero (suc n) [] z = refl
word_none zero (suc n) (o ∷ s) z =
    let e : o ≡ 0 = z 0 (suc-le-suc zero-le) in
    let f : word (take n s) ≡ 0 = word_none zero n s (λ j h. z (suc j) (suc-le-suc h)) in omega arith
word_none (suc k) zero s z = refl
word_none (suc k) (suc n) [] z = refl
word_none (suc k) (suc n) (o ∷ s) z = word_none k n s (λ j h. z (suc j) (suc-le-suc h))

-- the four octets of a register in front: only the last distance takes them up
pub begun : (w : List ℕ) (r : ℕ) → length w ≡ 1560 → ((j : ℕ) → j < 300 → get_or w j 0 ≡ 0) → r < 0x1_0000_0000
    → carried_on (take 300 (set (set (set (set w 0 (r % 256)) 1 (r / 256 % 256)) 2 (r / 256 ^ 2 % 256)) 3 (r / 256 ^ 3 % 256))) ≡ r
begun [] r long none small = omega arith
begun (a ∷ []) r long none small = omega arith
begun (a ∷ b ∷ []) r long none small = omega arith
begun (a ∷ b ∷ c ∷ []) r long none small = omega arith
begun (a ∷ b ∷ c ∷ d ∷ w) r long none small =
    let gone : (k : ℕ) → word (drop k (take 296 w)) ≡ 0 = λ k. word_none k 296 w (λ j h. none (suc (suc (suc (suc j)))) (omega arith)) in
    let whole : word (to_le_bytes w32 r ++ take 296 w) ≡ r = omega (arith, gone 0, from_le_bytes-to_le_bytes_4 r small) in
    ap₂ bit_xor (gone 151) (ap₂ bit_xor (gone 113) (ap₂ bit_xor (gone 85) whole ∙ xor_zero_l r) ∙ xor_zero_l r) ∙ xor_zero_l r
