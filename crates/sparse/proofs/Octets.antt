-- An octet taken off the front of a message: the multiple of the divisor with octets for bits, and what is carried on as one number.
-- Assumes nothing.
use mathlib.Core.Path.{◌≡◌, refl, sym, ap, ap₂, ◌∙◌}
use mathlib.Core.List.{List, [], ◌∷◌, ◌++◌}
use Prim.Native.Nat.{ℕ, zero, suc, ◌+◌, ◌*◌, ◌/◌, ◌%◌, ◌-◌, ◌^◌, ◌≤◌, ◌<◌}
use native.Mathlib.Nat.{mod-eq_of_lt, div-eq_of_lt, add_comm, pow-suc}
use native.Mathlib.Omega.{arith}
use lib.Bits.{bit_xor, xor_assoc, xor_comm, xor_zero_r, xor_shifted, xor_shr, xor_mod}
use lib.Dec.{lit<}
use lib.Pow.{pow-add}
use lib.ListN.{length, get_or, drop, length-drop}
use lib.Seq.{drop-cons, drop-drop, drop-append-le, get_or-drop}
use Rattle.crc.specs.Crc.{crc_bits, crc_over}
use Rattle.crc.specs.Words.{crc_zeros, word}
use Rattle.crc.proofs.Xor.{xor_exchange}
use Rattle.crc.proofs.Linear.{none, word-last, zeros-xor, zeros-add, zeros_shifted, over_slice, turn}
use Rattle.sparse.specs.Octets.{carried_on}
use Rattle.sparse.proofs.Multiple.{trace, trace-none, xor-none}
use Rattle.sparse.proofs.Words.{same_end}

-- every octet of a list is one
abbrev pub Bytes : List ℕ → Type 0
Bytes s = (k : ℕ) → get_or s k 0 < 256

-- ---- the multiple

-- THE ONE COMPUTATION: of the highest bit of a register no trace is left
top : trace (2400 ∷ 1240 ∷ 936 ∷ 712 ∷ 0 ∷ []) 0x8000_0000 ≡ 0
top = refl

register : (v : ℕ) → v < 0x1_0000_0000 → crc_zeros 300 v ≡ bit_xor (crc_zeros 155 v) (bit_xor (crc_zeros 117 v) (bit_xor (crc_zeros 89 v) v))
unfolding crc_zeros
register v h =
    xor-none (crc_bits 2400 v) (trace (1240 ∷ 936 ∷ 712 ∷ 0 ∷ []) v) (trace-none (2400 ∷ 1240 ∷ 936 ∷ 712 ∷ 0 ∷ []) top v h)
    ∙ ap (λ (x : ℕ). bit_xor (crc_bits 1240 v) (bit_xor (crc_bits 936 v) (bit_xor (crc_bits 712 v) x))) (xor_zero_r v)

-- an octet that stands d octets on
abbrev up : ℕ → ℕ → ℕ
up d v = v * 2 ^ (d * 8)

-- an octet 145, 183, 211 and 300 octets on, seen from the octet behind it
abbrev spread : ℕ → ℕ
spread v = bit_xor (up 144 v) (bit_xor (up 182 v) (bit_xor (up 210 v) (up 299 v)))

moved : (d k m n v : ℕ) → n ≡ d + (k + m) → crc_zeros n (up d v) ≡ crc_zeros m (crc_zeros k v)
moved d k m n v e = ap (λ (j : ℕ). crc_zeros j (up d v)) e ∙ zeros_shifted d (k + m) v ∙ zeros-add k m v

far : (n v : ℕ) → 300 ≤ n → v < 256 → crc_zeros n (crc_zeros 1 v) ≡ crc_zeros n (spread v)
far n v l h =
    let m = n - 299 in
    let r = crc_zeros m in
    let whole : crc_zeros n (crc_zeros 1 v) ≡ r (crc_zeros 300 v) =
    sym (zeros-add 1 n v) ∙ (let p : 1 + n ≡ 300 + m = omega arith in ap (λ (j : ℕ). crc_zeros j v) p) ∙ zeros-add 300 m v in
    whole ∙ ap r (register v (omega arith))
    ∙ zeros-xor m (crc_zeros 155 v) (bit_xor (crc_zeros 117 v) (bit_xor (crc_zeros 89 v) v))
    ∙ ap (bit_xor (r (crc_zeros 155 v))) (zeros-xor m (crc_zeros 117 v) (bit_xor (crc_zeros 89 v) v)
    ∙ ap (bit_xor (r (crc_zeros 117 v))) (zeros-xor m (crc_zeros 89 v) v))
    ∙ sym (zeros-xor n (up 144 v) (bit_xor (up 182 v) (bit_xor (up 210 v) (up 299 v)))
    ∙ ap₂ bit_xor (moved 144 155 m n v (omega arith)) (zeros-xor n (up 182 v) (bit_xor (up 210 v) (up 299 v))
    ∙ ap₂ bit_xor (moved 182 117 m n v (omega arith)) (zeros-xor n (up 210 v) (up 299 v)
    ∙ ap₂ bit_xor (moved 210 89 m n v (omega arith)) (moved 299 0 m n v (omega arith) ∙ ap r (sym (none v))))))

-- ---- octets as one number

octet_more : (n : ℕ) → 2 ^ (suc n * 8) ≡ 2 ^ (n * 8) * 256
octet_more n = (let e : suc n * 8 ≡ n * 8 + 8 = omega arith in ap (λ (k : ℕ). 2 ^ k) e) ∙ pow-add 2 (n * 8) 8

octet_power : (n : ℕ) → 2 ^ (n * 8) ≡ 256 ^ n
octet_power zero = refl
octet_power (suc n) = octet_more n ∙ ap (λ (x : ℕ). x * 256) (octet_power n) ∙ sym (pow-suc 256 n)

word_lt : (s : List ℕ) → Bytes s → word s < 2 ^ (length s * 8)
word_lt [] b = lit< tt
word_lt (o ∷ s) b =
    let below : word s < 2 ^ (length s * 8) = word_lt s (λ k. b (suc k)) in
    let octet : o < 256 = b 0 in
    let more = octet_more (length s) in
    omega arith

pushed : (s : List ℕ) (v : ℕ) → Bytes s → word (s ++ v ∷ []) ≡ bit_xor (word s) (up (length s) v)
pushed s v b =
    word-last s v ∙ ap (λ (x : ℕ). word s + v * x) (sym (octet_power (length s))) ∙ add_comm (word s) (up (length s) v)
    ∙ sym (xor_shifted v (length s * 8) (word s) (word_lt s b)) ∙ xor_comm (up (length s) v) (word s)

exchange_four : (a b c d e f g h : ℕ) → bit_xor (bit_xor a b) (bit_xor (bit_xor c d) (bit_xor (bit_xor e f) (bit_xor g h)))
    ≡ bit_xor (bit_xor a (bit_xor c (bit_xor e g))) (bit_xor b (bit_xor d (bit_xor f h)))
exchange_four a b c d e f g h =
    ap (bit_xor (bit_xor a b)) (ap (bit_xor (bit_xor c d)) (xor_exchange e f g h) ∙ xor_exchange c d (bit_xor e g) (bit_xor f h))
    ∙ xor_exchange a b (bit_xor c (bit_xor e g)) (bit_xor d (bit_xor f h))

-- ---- one octet of a message

module _ (h : List ℕ) (long : length h ≡ 300) (bytes : Bytes h) where
  bytes_from : (k : ℕ) → Bytes (drop k h)
  bytes_from k j = rw get_or-drop (bytes (k + j))

  first : (k : ℕ) → k < 300 → word (drop k h) ≡ get_or h k 0 + word (drop (suc k) h) * 256
  first k l = ap word (drop-cons h k 0 (omega arith))

  lowest : (k : ℕ) → k < 300 → word (drop k h) % 256 ≡ get_or h k 0
  lowest k l = let e = first k l in let b = bytes k in omega arith

  others : (k : ℕ) → k < 300 → word (drop k h) / 256 ≡ word (drop (suc k) h)
  others k l = let e = first k l in let b = bytes k in omega arith

  -- what is carried on without its lowest octet
  abbrev later : ℕ
  later = bit_xor (word (drop 156 h)) (bit_xor (word (drop 118 h)) (bit_xor (word (drop 90 h)) (word (drop 1 h))))

  low : carried_on h % 256 ≡ bit_xor (get_or h 155 0) (bit_xor (get_or h 117 0) (bit_xor (get_or h 89 0) (get_or h 0 0)))
  low =
      xor_mod (word (drop 155 h)) (bit_xor (word (drop 117 h)) (bit_xor (word (drop 89 h)) (word h))) 8
      ∙ ap₂ bit_xor (lowest 155 (lit< tt)) (xor_mod (word (drop 117 h)) (bit_xor (word (drop 89 h)) (word h)) 8
      ∙ ap₂ bit_xor (lowest 117 (lit< tt)) (xor_mod (word (drop 89 h)) (word h) 8
      ∙ ap₂ bit_xor (lowest 89 (lit< tt)) (lowest 0 (lit< tt))))

  high : carried_on h / 256 ≡ later
  high =
      xor_shr (word (drop 155 h)) (bit_xor (word (drop 117 h)) (bit_xor (word (drop 89 h)) (word h))) 8
      ∙ ap₂ bit_xor (others 155 (lit< tt)) (xor_shr (word (drop 117 h)) (bit_xor (word (drop 89 h)) (word h)) 8
      ∙ ap₂ bit_xor (others 117 (lit< tt)) (xor_shr (word (drop 89 h)) (word h) 8
      ∙ ap₂ bit_xor (others 89 (lit< tt)) (others 0 (lit< tt))))

  -- the octet that comes out behind the others
  pushed_at : (k d v : ℕ) → d + suc k ≡ 300 → word (drop k (drop 1 h ++ v ∷ [])) ≡ bit_xor (up d v) (word (drop (suc k) h))
  pushed_at k d v e =
      let left : length (drop (suc k) h) ≡ d = simp length-drop (omega arith) in
      let n : 1 + k ≡ suc k = omega arith in
      ap word (drop-append-le k (drop 1 h) (v ∷ []) (simp length-drop (omega arith))
      ∙ ap (λ (l : List ℕ). l ++ v ∷ []) (drop-drop k 1 h ∙ ap (λ (m : ℕ). drop m h) n))
      ∙ pushed (drop (suc k) h) v (bytes_from (suc k)) ∙ ap (λ (m : ℕ). bit_xor (word (drop (suc k) h)) (up m v)) left
      ∙ xor_comm (word (drop (suc k) h)) (up d v)

  next : (v : ℕ) → carried_on (drop 1 h ++ v ∷ []) ≡ bit_xor (spread v) later
  next v =
      ap₂ bit_xor (pushed_at 155 144 v refl) (ap₂ bit_xor (pushed_at 117 182 v refl) (ap₂ bit_xor (pushed_at 89 210 v refl) (pushed_at 0 299 v refl)))
      ∙ exchange_four (up 144 v) (word (drop 156 h)) (up 182 v) (word (drop 118 h)) (up 210 v) (word (drop 90 h)) (up 299 v) (word (drop 1 h))

  -- THE LAW: the next octet taken off, and carried on
  pub octet-taken : (s : List ℕ) (i v : ℕ) → Bytes s → i + 301 ≤ length s → v < 256
      → v ≡ bit_xor (bit_xor (bit_xor (bit_xor (get_or s i 0) (get_or h 155 0)) (get_or h 117 0)) (get_or h 89 0)) (get_or h 0 0)
      → crc_over (carried_on (drop 1 h ++ v ∷ [])) (drop (i + 1) s) ≡ crc_over (carried_on h) (drop i s)
  octet-taken s i v b fits below e =
      let o = get_or s i 0 in
      let a = get_or h 155 0 in
      let c = get_or h 117 0 in
      let d = get_or h 89 0 in
      let f = get_or h 0 0 in
      let x = bit_xor (carried_on h) o in
      let l = drop (i + 1) s in
      let octet : o < 256 = b i in
      let comes : x % 256 ≡ v =
      xor_mod (carried_on h) o 8 ∙ ap₂ bit_xor low (mod-eq_of_lt octet) ∙ xor_comm (bit_xor a (bit_xor c (bit_xor d f))) o
      ∙ sym (e ∙ xor_assoc (bit_xor (bit_xor o a) c) d f ∙ xor_assoc (bit_xor o a) c (bit_xor d f) ∙ xor_assoc o a (bit_xor c (bit_xor d f))) in
      let stays : x / 256 ≡ later =
      xor_shr (carried_on h) o 8 ∙ ap₂ bit_xor high (div-eq_of_lt octet) ∙ xor_zero_r later in
      ap (λ (y : ℕ). crc_over y l) (next v)
      ∙ sym (same_end (crc_zeros 1 v) (spread v) later l (λ k. rw get_or-drop (b (i + 1 + k))) (far (length l) v (simp length-drop (omega arith)) below))
      ∙ ap (λ (y : ℕ). crc_over y l) (sym (over_slice 0 x ∙ ap₂ bit_xor (ap (crc_zeros 1) comes) (sym (none (x / 256)) ∙ stays)))
      ∙ turn 0 s i (carried_on h) b (omega arith)
