-- What setting and lowering do to a list of timers: its length stays, and each timer changes by itself. Assumes nothing.
use Prim.Native.Nat.{ℕ, suc, ◌+◌, ◌-◌, ◌*◌, ◌/◌, ◌%◌, ◌<◌}
use native.Mathlib.Numerals.{add-one}
use native.Mathlib.Omega.{arith}
use mathlib.Core.Path.{◌≡◌, refl, ap}
use mathlib.Core.Bool.{cond}
use mathlib.Core.List.{List, [], ◌∷◌, ◌++◌}
use lib.ListN.{length, get_or, take, drop, set, replicate}
use lib.Seq.{drop-cons, take-suc-set, drop-set-lt, append_snoc, get_or-drop, drop-drop}
use lib.Dec.{eqb}
use Rattle.line.specs.Octets.{high_first_at}
use Rattle.station.specs.declared.Slots.{Slots}
use Rattle.station.specs.declared.Quanta.{Quanta}
use Rattle.station.specs.declared.Outcome.{Outcome}
use Rattle.station.specs.declared.Outcome.TheVariants.{Cut, BadPreamble, Undersized, Oversized, WrongFcs, WrongLength, Filtered, PauseTaken, PfcTaken, ControlDropped, HandedOut}
use Rattle.flow.specs.Timers.{slots_of, quanta_at, set_all, set_named, timers_after, lowered}

-- ---- lengths

pub length-set_all : (q : Quanta) (ts : List Slots) → length (set_all q ts) ≡ length ts
unfolding set_all
length-set_all q [] = refl
length-set_all q (t ∷ ts) = ap suc (length-set_all q ts)

pub length-set_named : (classes : ℕ) (quanta : List ℕ) (ts : List Slots) → length (set_named classes quanta ts) ≡ length ts
unfolding set_named
length-set_named classes quanta [] = refl
length-set_named classes quanta (t ∷ ts) = ap suc (length-set_named (classes / 2) (drop 2 quanta) ts)

pub length-lowered : (n : ℕ) (ts : List Slots) → length (lowered n ts) ≡ length ts
unfolding lowered
length-lowered n [] = refl
length-lowered n (t ∷ ts) = ap suc (length-lowered n ts)

pub length-timers_after : (o : Outcome) (f : List ℕ) (ts : List Slots) → length (timers_after o f ts) ≡ length ts
unfolding timers_after
length-timers_after Cut f ts = refl
length-timers_after BadPreamble f ts = refl
length-timers_after Undersized f ts = refl
length-timers_after Oversized f ts = refl
length-timers_after WrongFcs f ts = refl
length-timers_after WrongLength f ts = refl
length-timers_after Filtered f ts = refl
length-timers_after PauseTaken f ts = length-set_all (quanta_at f 16) ts
length-timers_after PfcTaken f ts = length-set_named (get_or f 17 0) (drop 18 f) ts
length-timers_after ControlDropped f ts = refl
length-timers_after HandedOut f ts = refl

-- ---- all set: as many copies

pub set_all-replicate : (q : Quanta) (ts : List Slots) → set_all q ts ≡ replicate (length ts) (slots_of q)
unfolding set_all
set_all-replicate q [] = refl
set_all-replicate q (t ∷ ts) = ap (λ (l : List Slots). slots_of q ∷ l) (set_all-replicate q ts)

-- ---- named ones set: a turn at index k, where the class octet has come down to `classes` and the quanta stand in f from 18 + 2 k on

pub named_turn : (f : List ℕ) (classes k : ℕ) (ts : List Slots) (d y : Slots) → k < length ts
    → y ≡ cond (eqb (classes % 2) 1) (slots_of (record { 0 = high_first_at f (18 + 2 * k) })) (get_or ts k d)
    → take (k + 1) (set ts k y) ++ set_named (classes / 2) (drop (18 + 2 * (k + 1)) f) (drop (k + 1) (set ts k y))
    ≡ take k ts ++ set_named classes (drop (18 + 2 * k) f) (drop k ts)
unfolding set_named quanta_at high_first_at
named_turn f classes k ts d y h e =
    let on : 18 + 2 * suc k ≡ 18 + 2 * k + 2 = omega arith in
    let first : 18 + 2 * k + 0 ≡ 18 + 2 * k = omega arith in
    rw (add-one k, take-suc-set ts k y h, drop-set-lt (suc k) ts k y (omega arith), drop-cons ts k d h, append_snoc (take k ts) y, e)
    (simp (get_or-drop, drop-drop, on, first))

-- ---- all lowered: a turn at index k

pub lowered_turn : (n k : ℕ) (ts : List Slots) (d y : Slots) → k < length ts → y ≡ record { 0 = (get_or ts k d).0 - n }
    → take (k + 1) (set ts k y) ++ lowered n (drop (k + 1) (set ts k y)) ≡ take k ts ++ lowered n (drop k ts)
unfolding lowered
lowered_turn n k ts d y h e =
    rw (add-one k, take-suc-set ts k y h, drop-set-lt (suc k) ts k y (omega arith), drop-cons ts k d h, append_snoc (take k ts) y, e)
