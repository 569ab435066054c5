-- An entry written in its place: eight octets, and of the list of entries one is set. Assumes nothing.
use Prim.Native.Nat.{ℕ, zero, suc, ◌+◌, ◌*◌, ◌≤◌, ◌<◌}
use native.Mathlib.Omega.{arith}
use native.Mathlib.Nat.{not-suc-le-zero, le_of_suc-le-suc}
use mathlib.Core.Path.{◌≡◌, refl, sym, ap, ap₂, ◌∙◌}
use mathlib.Core.List.{List, [], ◌∷◌, ◌++◌}
use lib.ListN.{length, get_or, set, length-set}
use lib.Seq.{sets, length-sets, take_all, get_or-set_same, get_or-set_other, ext_get_or}
use lib.Dec.{eqb, lit<}
use borrow.Author.Tests.{eqb-true, eqb-false}
use Rattle.line.specs.Limits.{table_entries}
use Rattle.line.proofs.Symbols.{by_test}
use Rattle.fields.specs.Fields.{destination}
use Rattle.table.specs.declared.Holder.{Holder}
use Rattle.table.specs.declared.Holder.TheVariants.{Nobody, JobZero, JobOne}
use Rattle.table.specs.declared.Entry.{Entry}
use Rattle.table.specs.Entries.{holder_by, address_at, entry_at, entries_of}
use Rattle.table.specs.Calls.{holder_octet, entry_octets, put_entry}
use Rattle.table.proofs.Entries.{entries_sixteen, entry_is}

-- six octets, one by one
pub six_list : (l : List ℕ) → length l ≡ 6
    → l ≡ get_or l 0 0 ∷ get_or l 1 0 ∷ get_or l 2 0 ∷ get_or l 3 0 ∷ get_or l 4 0 ∷ get_or l 5 0 ∷ []
six_list [] h = absurd (omega arith)
six_list (a ∷ []) h = absurd (omega arith)
six_list (a ∷ b ∷ []) h = absurd (omega arith)
six_list (a ∷ b ∷ c ∷ []) h = absurd (omega arith)
six_list (a ∷ b ∷ c ∷ d ∷ []) h = absurd (omega arith)
six_list (a ∷ b ∷ c ∷ d ∷ e ∷ []) h = absurd (omega arith)
six_list (a ∷ b ∷ c ∷ d ∷ e ∷ f ∷ []) h = refl
six_list (a ∷ b ∷ c ∷ d ∷ e ∷ f ∷ g ∷ l) h = absurd (omega arith)

-- all of them are a destination
pub six-destination : (l : List ℕ) → length l ≡ 6 → destination l ≡ l
unfolding destination
six-destination l h = take_all 6 l (omega arith)

-- eight stores, one after the other, from place `at` on
abbrev eight_stored : List ℕ → ℕ → ℕ → List ℕ → List ℕ
eight_stored t at h o =
    set
    (set
    (set
    (set
    (set
    (set
    (set
    (set t at h)
    (at + 1) (get_or o 0 0))
    (at + 2) (get_or o 1 0))
    (at + 3) (get_or o 2 0))
    (at + 4) (get_or o 3 0))
    (at + 5) (get_or o 4 0))
    (at + 6) (get_or o 5 0))
    (at + 7) 0

abbrev eight_of : ℕ → List ℕ → List ℕ
eight_of h o = h ∷ get_or o 0 0 ∷ get_or o 1 0 ∷ get_or o 2 0 ∷ get_or o 3 0 ∷ get_or o 4 0 ∷ get_or o 5 0 ∷ 0 ∷ []

stores : (t : List ℕ) (at h : ℕ) (o : List ℕ) → eight_stored t at h o ≡ sets t at (eight_of h o)
stores t at h o =
    let one : at + 1 ≡ suc at = omega arith in
    let two : at + 2 ≡ suc (suc at) = omega arith in
    let three : at + 3 ≡ suc (suc (suc at)) = omega arith in
    let four : at + 4 ≡ suc (suc (suc (suc at))) = omega arith in
    let five : at + 5 ≡ suc (suc (suc (suc (suc at)))) = omega arith in
    let six : at + 6 ≡ suc (suc (suc (suc (suc (suc at))))) = omega arith in
    let seven : at + 7 ≡ suc (suc (suc (suc (suc (suc (suc at)))))) = omega arith in
    rw (one, two, three, four, five, six, seven)

pub stored_entry : (t : List ℕ) (k : ℕ) (e : Entry) → length e.address.0 ≡ 6
    → eight_stored t (8 * k) (holder_octet e.holder) e.address.0 ≡ put_entry t k e
unfolding put_entry entry_octets
stored_entry t k e six =
    let o = e.address.0 in
    let x = holder_octet e.holder in
    stores t (8 * k) x o
    ∙ ap (sets t (8 * k)) (sym (ap (λ (l : List ℕ). x ∷ (l ++ (0 ∷ []))) (six_list o six)))

-- ---- what stands at a place once some octets are stored

-- where none of them was
get_or_sets_other : (vs l : List ℕ) (i j : ℕ) → ((m : ℕ) → m < length vs → j ≡ i + m → ⊥) → get_or (sets l i vs) j 0 ≡ get_or l j 0
get_or_sets_other [] l i j apart = refl
get_or_sets_other (a ∷ vs) l i j apart =
    get_or_sets_other vs (set l i a) (suc i) j (λ m h e. apart (suc m) (let g : suc m < suc (length vs) = omega arith in g) (let z : j ≡ i + suc m = omega arith in z))
    ∙ get_or-set_other l i j a 0 (λ e. apart 0 (let g : 0 < suc (length vs) = omega arith in g) (let z : j ≡ i + 0 = omega arith in z))

-- and where they were
get_or_sets_at : (vs l : List ℕ) (i m : ℕ) → m < length vs → i + length vs ≤ length l → get_or (sets l i vs) (i + m) 0 ≡ get_or vs m 0
get_or_sets_at [] l i m h room = absurd (not-suc-le-zero h)
get_or_sets_at (a ∷ vs) l i zero h room =
    let here : i + 0 ≡ i = omega arith in
    ap (λ (j : ℕ). get_or (sets (set l i a) (suc i) vs) j 0) here
    ∙ get_or_sets_other vs (set l i a) (suc i) i (λ m g e. omega arith)
    ∙ get_or-set_same l i a 0 (omega arith)
get_or_sets_at (a ∷ vs) l i (suc m) h room =
    let next : i + suc m ≡ suc i + m = omega arith in
    ap (λ (j : ℕ). get_or (sets (set l i a) (suc i) vs) j 0) next
    ∙ get_or_sets_at vs (set l i a) (suc i) m (le_of_suc-le-suc h) (let z = length-set l i a in omega arith)

-- an entry by its seven octets that are looked at
seven : (t : List ℕ) (k h a b c d e f : ℕ) → get_or t (8 * k) 0 ≡ h → get_or t (8 * k + 1) 0 ≡ a → get_or t (8 * k + 2) 0 ≡ b → get_or t (8 * k + 3) 0 ≡ c
    → get_or t (8 * k + 4) 0 ≡ d → get_or t (8 * k + 5) 0 ≡ e → get_or t (8 * k + 6) 0 ≡ f
    → entry_at t k ≡ record { holder = holder_by h; address = record { 0 = a ∷ b ∷ c ∷ d ∷ e ∷ f ∷ [] } }
unfolding entry_at address_at
seven t k h a b c d e f eh ea eb ec ed ee ef =
    let two : 8 * k + 1 + 1 ≡ 8 * k + 2 = omega arith in
    let three : 8 * k + 1 + 2 ≡ 8 * k + 3 = omega arith in
    let four : 8 * k + 1 + 3 ≡ 8 * k + 4 = omega arith in
    let five : 8 * k + 1 + 4 ≡ 8 * k + 5 = omega arith in
    let six : 8 * k + 1 + 5 ≡ 8 * k + 6 = omega arith in
    rw (two, three, four, five, six, eh, ea, eb, ec, ed, ee, ef)

holder_back : (h : Holder) → holder_by (holder_octet h) ≡ h
unfolding holder_by
holder_back Nobody = refl
holder_back JobZero = refl
holder_back JobOne = refl

module _ (t : List ℕ) (k : ℕ) (e : Entry) (n : length t ≡ 128) (h : k < table_entries) (six : length e.address.0 ≡ 6) where
  abbrev o : List ℕ
  o = e.address.0

  put_is : put_entry t k e ≡ sets t (8 * k) (eight_of (holder_octet e.holder) o)
  unfolding put_entry entry_octets
  put_is = ap (sets t (8 * k)) (ap (λ (l : List ℕ). holder_octet e.holder ∷ (l ++ (0 ∷ []))) (six_list o six))

  pub length-put : length (put_entry t k e) ≡ 128
  length-put = ap length put_is ∙ length-sets t (8 * k) (eight_of (holder_octet e.holder) o) ∙ n

  octet-at : (m : ℕ) → m < 8 → get_or (put_entry t k e) (8 * k + m) 0 ≡ get_or (eight_of (holder_octet e.holder) o) m 0
  octet-at m g =
      ap (λ (l : List ℕ). get_or l (8 * k + m) 0) put_is
      ∙ get_or_sets_at (eight_of (holder_octet e.holder) o) t (8 * k) m g (omega arith)

  -- the entry that was written is read again
  pub put-here : entry_at (put_entry t k e) k ≡ e
  put-here =
      let front : 8 * k ≡ 8 * k + 0 = omega arith in
      seven (put_entry t k e) k (holder_octet e.holder) (get_or o 0 0) (get_or o 1 0) (get_or o 2 0) (get_or o 3 0) (get_or o 4 0) (get_or o 5 0)
      (ap (λ (j : ℕ). get_or (put_entry t k e) j 0) front ∙ octet-at 0 (lit< tt))
      (octet-at 1 (lit< tt)) (octet-at 2 (lit< tt)) (octet-at 3 (lit< tt)) (octet-at 4 (lit< tt)) (octet-at 5 (lit< tt)) (octet-at 6 (lit< tt))
      ∙ ap₂ (λ (x : Holder) (l : List ℕ). record { holder = x; address = record { 0 = l } }) (holder_back e.holder) (sym (six_list o six))

  octet-other : (i m : ℕ) → (i ≡ k → ⊥) → m < 8 → get_or (put_entry t k e) (8 * i + m) 0 ≡ get_or t (8 * i + m) 0
  octet-other i m apart g =
      ap (λ (l : List ℕ). get_or l (8 * i + m) 0) put_is
      ∙ get_or_sets_other (eight_of (holder_octet e.holder) o) t (8 * k) (8 * i + m) (λ j l q. apart (let z : i ≡ k = omega arith in z))

  -- and no other moves
  pub put_other : (i : ℕ) → (i ≡ k → ⊥) → entry_at (put_entry t k e) i ≡ entry_at t i
  put_other i apart =
      let front : 8 * i ≡ 8 * i + 0 = omega arith in
      let first : get_or (put_entry t k e) (8 * i) 0 ≡ get_or t (8 * i) 0 =
      ap (λ (j : ℕ). get_or (put_entry t k e) j 0) front ∙ octet-other i 0 apart (lit< tt) ∙ ap (λ (j : ℕ). get_or t j 0) (sym front) in
      seven (put_entry t k e) i _ _ _ _ _ _ _ first (octet-other i 1 apart (lit< tt)) (octet-other i 2 apart (lit< tt)) (octet-other i 3 apart (lit< tt))
      (octet-other i 4 apart (lit< tt)) (octet-other i 5 apart (lit< tt)) (octet-other i 6 apart (lit< tt))
      ∙ sym (seven t i _ _ _ _ _ _ _ refl refl refl refl refl refl refl)

  -- so of the list of entries one is set
  pub put_entries : entries_of (put_entry t k e) ≡ set (entries_of t) k e
  put_entries =
      let same : length (entries_of (put_entry t k e)) ≡ length (set (entries_of t) k e) =
      entries_sixteen (put_entry t k e) ∙ sym (length-set (entries_of t) k e ∙ entries_sixteen t) in
      ext_get_or e (entries_of (put_entry t k e)) (set (entries_of t) k e) same
      (λ i l. let inside : i < table_entries = omega (arith, entries_sixteen (put_entry t k e)) in
      entry_is (put_entry t k e) i e inside
      ∙ by_test (eqb i k)
      (λ q. let z : i ≡ k = eqb-true i k q in
      ap (entry_at (put_entry t k e)) z ∙ put-here ∙ sym (ap (λ (j : ℕ). get_or (set (entries_of t) k e) j e) z ∙ get_or-set_same (entries_of t) k e e (omega (arith, entries_sixteen t))))
      (λ q. let apart : i ≡ k → ⊥ = eqb-false i k q in
      put_other i apart ∙ sym (get_or-set_other (entries_of t) k i e e apart ∙ entry_is t i e inside)))
