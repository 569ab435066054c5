-- A call of the table that is refused, one that goes on, and one that finds no entry. Assumes nothing.
use Rattle.std.specs.Prelude.{ℕ, ◌≡◌, List, Err, None, Ok, Option, Result, ok_or}
use Rattle.station.specs.Numbers.{Checked}
use Rattle.station.specs.declared.Refusal.{Refusal}
use Rattle.station.specs.declared.Refusal.TheVariants.{AllInUse}
use Rattle.table.specs.declared.Entry.{Entry}
use Rattle.table.specs.Calls.{change, put_at, changed}

pub was_refused : (r : Result ℕ Refusal) (q : Checked) (x y : Refusal) (found : Option ℕ) (t : List ℕ) (e : Entry) → r ≡ Err y → y ≡ x → q ≡ Err x
    → change r t ≡ changed q found t e
unfolding changed
was_refused r q x y found t e a b d = rw (a, b, d)

pub went_on : (q : Checked) (found : Option ℕ) (t : List ℕ) (e : Entry) → q ≡ Ok tt → put_at found t e ≡ changed q found t e
unfolding changed
went_on q found t e d = rw d

pub none_found : (r : Result ℕ Refusal) (x y : Refusal) (found : Option ℕ) (t : List ℕ) (e : Entry) → r ≡ Err y → y ≡ x → Err x ≡ ok_or found AllInUse
    → found ≡ None → change r t ≡ put_at found t e
unfolding put_at
none_found r x y found t e a b d none =
    let f : ◌≡◌ {A = Result ℕ Refusal} (Err x) (Err AllInUse) = rw none at d in
    let g : x ≡ AllInUse = cc in
    rw (a, b, none, g)
