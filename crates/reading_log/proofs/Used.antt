-- Which of some records are used: those that remain, all of them, and the last one. Assumes nothing.
use Prim.Native.Nat.{ℕ, zero, suc, ◌+◌, ◌-◌, ◌≤◌}
use native.Mathlib.Omega.{arith}
use native.Mathlib.Nat.{suc_inj}
use mathlib.Core.Path.{◌≡◌, refl, sym, ap, ap₂, ◌∙◌}
use mathlib.Core.Bool.{Bool, true, false, ◌&&◌, ◌||◌, cond, or-true, false≢true}
use mathlib.Core.List.{List, [], ◌∷◌, ◌++◌, append-nil}
use lib.ListN.{length, drop, take, take-append-drop}
use lib.Seq.{drop-drop}
use lib.Dec.{ltb}
use borrow.Author.Tests.{lt-ltb, ltb-false}
use Rattle.line.proofs.Symbols.{by_test}
use Rattle.reading_log.specs.Log.{is_used, all_used, used_ones, up_to_last}

-- ---- those that remain

pub used-none : used_ones [] ≡ []
unfolding used_ones
used-none = refl

pub used_keep : (s : List ℕ) (ss : List (List ℕ)) → is_used s ≡ true → used_ones (s ∷ ss) ≡ s ∷ used_ones ss
unfolding used_ones
used_keep s ss u = rw (u, used_ones)

pub used_skip : (s : List ℕ) (ss : List (List ℕ)) → is_used s ≡ false → used_ones (s ∷ ss) ≡ used_ones ss
unfolding used_ones
used_skip s ss u = rw (u, used_ones)

pub used-append : (ss ts : List (List ℕ)) → used_ones (ss ++ ts) ≡ used_ones ss ++ used_ones ts
used-append [] ts = ap (λ (x : List (List ℕ)). x ++ used_ones ts) (sym used-none)
used-append (s ∷ ss) ts =
    by_test (is_used s)
    (λ u. used_keep s (ss ++ ts) u
    ∙ ap (λ (x : List (List ℕ)). s ∷ x) (used-append ss ts)
    ∙ ap (λ (x : List (List ℕ)). x ++ used_ones ts) (sym (used_keep s ss u)))
    (λ u. used_skip s (ss ++ ts) u ∙ used-append ss ts ∙ ap (λ (x : List (List ℕ)). x ++ used_ones ts) (sym (used_skip s ss u)))

pub used_le : (ss : List (List ℕ)) → length (used_ones ss) ≤ length ss
used_le [] = rw used-none (omega arith)
used_le (s ∷ ss) =
    let h = used_le ss in
    by_test (is_used s) (λ u. rw (used_keep s ss u) (omega arith)) (λ u. rw (used_skip s ss u) (omega arith))

-- ---- every one is used

pub all_kept : (ss : List (List ℕ)) → all_used ss ≡ true → used_ones ss ≡ ss
unfolding all_used
all_kept [] u = used-none
all_kept (s ∷ ss) u =
    by_test (is_used s) (λ t. used_keep s ss t ∙ ap (λ (x : List (List ℕ)). s ∷ x) (all_kept ss (rw t at u))) (λ t. absurd (false≢true (rw t at u)))

-- those that remain are
pub kept_all : (ss : List (List ℕ)) → all_used (used_ones ss) ≡ true
unfolding all_used
kept_all [] = rw used-none
kept_all (s ∷ ss) = by_test (is_used s) (λ u. rw (used_keep s ss u, u) (kept_all ss)) (λ u. rw (used_skip s ss u) (kept_all ss))

-- as many remain as there are
pub used-full : (ss : List (List ℕ)) → length (used_ones ss) ≡ length ss → all_used ss ≡ true
unfolding all_used
used-full [] h = refl
used-full (s ∷ ss) h =
    let le = used_le ss in
    by_test (is_used s)
    (λ u. ap₂ ◌&&◌ u (used-full ss (suc_inj (rw (used_keep s ss u) at h))))
    (λ u. let e : length (used_ones ss) ≡ suc (length ss) = rw (used_skip s ss u) at h in absurd (let z : ⊥ = omega arith in z))

-- ---- the last used one

-- this one is used, or one behind it; or neither
pub last_on : (s : List ℕ) (ss : List (List ℕ)) → (is_used s || ltb 0 (up_to_last ss)) ≡ true → up_to_last (s ∷ ss) ≡ suc (up_to_last ss)
unfolding up_to_last
last_on s ss h = ap (λ (b : Bool). cond b (1 + up_to_last ss) 0) h ∙ (let e : 1 + up_to_last ss ≡ suc (up_to_last ss) = omega arith in e)

pub last_off : (s : List ℕ) (ss : List (List ℕ)) → is_used s ≡ false → up_to_last ss ≡ 0 → up_to_last (s ∷ ss) ≡ 0
unfolding up_to_last
last_off s ss u h = ap (λ (b : Bool). cond b (1 + up_to_last ss) 0) (ap₂ ◌||◌ u (ap (ltb 0) h))

last-nil : up_to_last [] ≡ 0
unfolding up_to_last
last-nil = refl

-- one of the two
by_last : {P : Type 0} (s : List ℕ) (ss : List (List ℕ)) → ((is_used s || ltb 0 (up_to_last ss)) ≡ true → P) → (is_used s ≡ false → up_to_last ss ≡ 0 → P) → P
by_last s ss on off =
    by_test (is_used s) (λ u. on (ap (λ (b : Bool). b || ltb 0 (up_to_last ss)) u))
    (λ u. by_test (ltb 0 (up_to_last ss)) (λ t. on (ap₂ ◌||◌ u t))
    (λ t. off u (let z : up_to_last ss ≡ 0 = omega (arith, ltb-false 0 (up_to_last ss) t) in z)))

pub last-used : (ss : List (List ℕ)) (s : List ℕ) → is_used s ≡ true → up_to_last (ss ++ (s ∷ [])) ≡ length ss + 1
last-used [] s u = last_on s [] (ap (λ (b : Bool). b || ltb 0 (up_to_last [])) u) ∙ ap suc last-nil
last-used (x ∷ ss) s u =
    let e = last-used ss s u in
    last_on x (ss ++ (s ∷ [])) (ap (λ (b : Bool). is_used x || b) (lt-ltb 0 (up_to_last (ss ++ (s ∷ []))) (omega arith)) ∙ or-true (is_used x))
    ∙ (let g : suc (up_to_last (ss ++ (s ∷ []))) ≡ suc (length ss) + 1 = omega arith in g)

pub last-unused : (ss : List (List ℕ)) (s : List ℕ) → is_used s ≡ false → up_to_last (ss ++ (s ∷ [])) ≡ up_to_last ss
last-unused [] s u = last_off s [] u last-nil ∙ sym last-nil
last-unused (x ∷ ss) s u =
    let e = last-unused ss s u in
    by_last x ss
    (λ t. last_on x (ss ++ (s ∷ [])) (ap (λ (n : ℕ). is_used x || ltb 0 n) e ∙ t) ∙ ap suc e ∙ sym (last_on x ss t))
    (λ v z. last_off x (ss ++ (s ∷ [])) v (e ∙ z) ∙ sym (last_off x ss v z))

-- behind it none remains
beyond_last : (ss : List (List ℕ)) → used_ones (drop (up_to_last ss) ss) ≡ []
beyond_last [] = ap (λ (k : ℕ). used_ones (drop k [])) last-nil ∙ used-none
beyond_last (s ∷ ss) =
    by_last s ss
    (λ t. ap (λ (k : ℕ). used_ones (drop k (s ∷ ss))) (last_on s ss t) ∙ beyond_last ss)
    (λ u z. ap (λ (k : ℕ). used_ones (drop k (s ∷ ss))) (last_off s ss u z)
    ∙ used_skip s ss u
    ∙ ap (λ (k : ℕ). used_ones (drop k ss)) (sym z)
    ∙ beyond_last ss)

drop-none : (k : ℕ) (ss : List (List ℕ)) → used_ones ss ≡ [] → used_ones (drop k ss) ≡ []
drop-none zero ss h = h
drop-none (suc k) [] h = h
drop-none (suc k) (s ∷ ss) h =
    by_test (is_used s)
    (λ u. let z : s ∷ used_ones ss ≡ [] = sym (used_keep s ss u) ∙ h in let y : ◌≡◌ {A = ℕ} 0 1 = cc in absurd (let x : ⊥ = omega arith in x))
    (λ u. drop-none k ss (sym (used_skip s ss u) ∙ h))

pub used_beyond : (ss : List (List ℕ)) (k : ℕ) → up_to_last ss ≤ k → used_ones (drop k ss) ≡ []
used_beyond ss k h =
    let u = up_to_last ss in
    ap (λ (i : ℕ). used_ones (drop i ss)) (let e : k ≡ u + (k - u) = omega arith in e)
    ∙ ap used_ones (sym (drop-drop (k - u) u ss))
    ∙ drop-none (k - u) (drop u ss) (beyond_last ss)

-- those up to it are those that remain
pub used-up_to : (ss : List (List ℕ)) → used_ones (take (up_to_last ss) ss) ≡ used_ones ss
used-up_to ss =
    let k = up_to_last ss in
    sym (append-nil (used_ones (take k ss)))
    ∙ ap (λ (x : List (List ℕ)). used_ones (take k ss) ++ x) (sym (beyond_last ss))
    ∙ sym (used-append (take k ss) (drop k ss))
    ∙ ap used_ones (take-append-drop k ss)
