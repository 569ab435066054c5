-- Document 02, item 6: "The management screen goes on showing the 32-bit values". The screen's values go on as the 32-bit counters of document 01,
-- which roll over by themselves. Assumes nothing.
use Rattle.std.proofs.Common.{◌≡◌, ℕ, zero, suc, ◌+◌, ◌-◌, ◌/◌, ◌%◌, ◌<◌, ◌≤◌, List, [], ◌∷◌, map, length, get_or, take, set, sym, refl, ap, ◌∙◌, subst, add-one, arith, take_all, get_or-set_other, take-suc, get_or-set_same, take-suc-set}
use native.Mathlib.Nat.{mod-add-mod, mod-mod, mod-mod_of_dvd, dvd-mul_right}
use lib.ListN.{length-map, get_or-map}
use Rattle.station.specs.declared.Outcome.{Outcome}
use Rattle.station.specs.Numbers.{outcome_number}
use Rattle.station.specs.Station.{counter_size, counter, counted, shown_size, shown, screen_of}
use Rattle.station.proofs.Counters.{row}

-- ---- a value of the screen

-- the remainder of a remainder: the narrow counter's size divides the wide one's
low_of_wide : (n : ℕ) → shown (n % counter_size) ≡ shown n
low_of_wide n = mod-mod_of_dvd shown_size n (dvd-mul_right shown_size (counter_size / shown_size))

-- of a rise of a counter modulo 2^64, however far, the screen shows that rise modulo 2^32
pub shown-sum : (n m k : ℕ) → n % counter_size ≡ (m + k) % counter_size → shown n ≡ (shown m + k) % shown_size
shown-sum n m k e =
    sym (low_of_wide n) ∙ ap shown e ∙ low_of_wide (m + k) ∙ sym (mod-add-mod m shown_size k)

pub counter-shown : (o : Outcome) (cs : List ℕ) → counter o (screen_of cs) ≡ shown (counter o cs)
unfolding counter screen_of
counter-shown o cs = get_or-map shown cs (outcome_number o - 1) 0

length_screen : (cs : List ℕ) → length (screen_of cs) ≡ length cs
unfolding screen_of
length_screen cs = length-map cs shown

-- ---- counting, seen on the screen

map-set : (f : ℕ → ℕ) (l : List ℕ) (i a : ℕ) → map f (set l i a) ≡ set (map f l) i (f a)
map-set f [] i a = refl
map-set f (x ∷ xs) zero a = refl
map-set f (x ∷ xs) (suc i) a = ap (λ (l : List ℕ). f x ∷ l) (map-set f xs i a)

-- the whole screen: as document 01's 32-bit counters are counted
pub screen_counts : (o : Outcome) (cs : List ℕ) → screen_of (counted o cs) ≡ set (screen_of cs) (outcome_number o - 1) ((counter o (screen_of cs) + 1) % shown_size)
unfolding screen_of counted
screen_counts o cs =
    let n : ℕ = counter o cs in
    let i : ℕ = outcome_number o - 1 in
    map-set shown cs i ((n + 1) % counter_size)
    ∙ ap (set (map shown cs) i)
    (shown-sum ((n + 1) % counter_size) n 1 (mod-mod (n + 1) counter_size) ∙ ap (λ (x : ℕ). (x + 1) % shown_size) (sym (counter-shown o cs)))

-- the value of the outcome that is counted rises by one modulo 2^32
pub shown-counts : (o : Outcome) (cs : List ℕ) → length cs ≡ 11 → counter o (screen_of (counted o cs)) ≡ (counter o (screen_of cs) + 1) % shown_size
unfolding counter
shown-counts o cs e =
    let inside : outcome_number o - 1 < length (screen_of cs) = subst (λ (k : ℕ). outcome_number o - 1 < k) (sym (length_screen cs ∙ e)) (row o).1 in
    ap (counter o) (screen_counts o cs) ∙ get_or-set_same (screen_of cs) (outcome_number o - 1) ((counter o (screen_of cs) + 1) % shown_size) 0 inside

-- and no other does
pub shown_stays : (o p : Outcome) (cs : List ℕ) → (outcome_number o ≡ outcome_number p → ⊥) → counter o (screen_of (counted p cs)) ≡ counter o (screen_of cs)
unfolding counter
shown_stays o p cs other =
    let apart : outcome_number o - 1 ≡ outcome_number p - 1 → ⊥ = (λ q. other (let a = (row o).0 in let b = (row p).0 in omega arith)) in
    ap (counter o) (screen_counts p cs)
    ∙ get_or-set_other (screen_of cs) (outcome_number p - 1) (outcome_number o - 1) ((counter p (screen_of cs) + 1) % shown_size) 0 apart

-- ---- `station::screen` goes over the counters: the first k are shown

pub shown-next : (cs r : List ℕ) (k : ℕ) → k < length cs → k < length r → take k r ≡ take k (screen_of cs)
    → take (k + 1) (set r k (shown (get_or cs k 0))) ≡ take (k + 1) (screen_of cs)
unfolding screen_of
shown-next cs r k h g e =
    rw (add-one k, take-suc-set r k (shown (get_or cs k 0)) g, take-suc (map shown cs) k 0 (omega (arith, length-map cs shown)), get_or-map shown cs k 0, e)

pub shown_all : (cs r : List ℕ) (k : ℕ) → length r ≡ length cs → length cs ≤ k → take k r ≡ take k (screen_of cs) → r ≡ screen_of cs
unfolding screen_of
shown_all cs r k same h e =
    sym (take_all k r (omega arith)) ∙ e ∙ take_all k (map shown cs) (omega (arith, length-map cs shown))
