-- Document 02, item 10, over a whole walk: a job's readings depend "on entry numbers in item 7's answer only through where the table put them". Two tables by
-- which a job accepts the same, wherever its entries stand, give the same readings but for that number (`placed-walk`), and so the same walk in one call,
-- which has no such number (`placed-walked`). Assumes nothing.
use Prim.Native.Nat.{ℕ, zero, suc, ◌+◌}
use mathlib.Core.Path.{◌≡◌, refl, sym, ap, ap₂, ◌∙◌}
use mathlib.Core.Bool.{Bool, true, false}
use mathlib.Core.List.{List, [], ◌∷◌, map}
use lib.ListN.{length}
use Rattle.station.specs.declared.Settings.{Settings}
use Rattle.station.specs.declared.State.{State}
use Rattle.table.specs.declared.Entry.{Entry}
use Rattle.table.specs.Entries.{mine}
use Rattle.table.specs.Tests.{bad_table}
use Rattle.table.specs.Way.{accepts}
use Rattle.receive.specs.declared.Answer.{Answer}
use Rattle.receive.specs.declared.Answer.TheVariants.{Refused, Nothing, Open, Counted}
use Rattle.receive.specs.declared.Reading.{Reading}
use Rattle.receive.specs.Jobs.{answer_unnumbered, unnumbered}
use Rattle.receive.specs.Reading.{reading}
use Rattle.receive.specs.Values.{is_counted}
use Rattle.receive.specs.Walk.{readings_from, walk, walk_of, walked}
use Rattle.receive.proofs.Jobs.{placed-reads}

-- ---- the number has no part in how a walk goes on, nor in what it comes to

counted_same : (a : Answer) → is_counted (answer_unnumbered a) ≡ is_counted a
counted_same (Refused x) = refl
counted_same Nothing = refl
counted_same Open = refl
counted_same (Counted o w p v) = refl

ends_same : (n : ℕ) (st : State) (rs : List Reading) → walk_of n st (map unnumbered rs) ≡ walk_of n st rs
unfolding walk_of
ends_same n st [] = refl
ends_same n st (r ∷ rs) = one r.answer (ends_same (n + 1) r.state rs)
  where
    one : (a : Answer) → walk_of (n + 1) r.state (map unnumbered rs) ≡ walk_of (n + 1) r.state rs
        → walk_of n st (unnumbered (record { answer = a; start = r.start; next = r.next; state = r.state }) ∷ map unnumbered rs)
        ≡ walk_of n st (record { answer = a; start = r.start; next = r.next; state = r.state } ∷ rs)
    one (Refused x) ih = refl
    one Nothing ih = refl
    one Open ih = refl
    one (Counted o w p v) ih = ih

-- ---- the readings, one after the other

tail : (b : Bool) (l k : List Reading) → map unnumbered l ≡ map unnumbered k
    → map unnumbered (elim b [ true ↦ l | false ↦ [] ]) ≡ map unnumbered (elim b [ true ↦ k | false ↦ [] ])
tail true l k e = e
tail false l k e = refl

module _ (s : Settings) (job : ℕ) (es es' : List Entry) (sound : bad_table es ≡ bad_table es')
    (same : (d : List ℕ) → accepts s (mine job es) d ≡ accepts s (mine job es') d) (os ms : List ℕ) where
  -- the readings from a place on, and a reading with those behind it
  abbrev from : ℕ → List Entry → State → ℕ → List Reading
  from most e st p = readings_from most s job e st os ms p

  abbrev then : ℕ → List Entry → Reading → List Reading
  then most e r = r ∷ elim (is_counted r.answer) [ true ↦ from most e r.state r.next | false ↦ [] ]

  abbrev Alike : ℕ → Type 0
  Alike most = (st : State) (p : ℕ) → map unnumbered (from most es st p) ≡ map unnumbered (from most es' st p)

  on : (most : ℕ) → Alike most → (r r' : Reading) → unnumbered r ≡ unnumbered r' → map unnumbered (then most es r) ≡ map unnumbered (then most es' r')
  on most ih r r' e =
      let counted : is_counted r.answer ≡ is_counted r'.answer =
      sym (counted_same r.answer) ∙ ap (λ (q : Reading). is_counted q.answer) e ∙ counted_same r'.answer in
      let state : r.state ≡ r'.state = ap (λ (q : Reading). q.state) e in
      let next : r.next ≡ r'.next = ap (λ (q : Reading). q.next) e in
      ap₂ (λ (q : Reading) (l : List Reading). q ∷ l) e
      (ap (λ (b : Bool). map unnumbered (elim b [ true ↦ from most es r.state r.next | false ↦ [] ])) counted
      ∙ tail (is_counted r'.answer) (from most es r.state r.next) (from most es' r'.state r'.next)
      (ih r.state r.next ∙ ap₂ (λ (st : State) (p : ℕ). map unnumbered (from most es' st p)) state next))

  readings_alike : (most : ℕ) → Alike most
  unfolding readings_from
  readings_alike zero st p = refl
  readings_alike (suc most) st p =
      on most (readings_alike most) (reading s job es st os ms p) (reading s job es' st os ms p) (placed-reads s job es es' sound same st os ms p)

  pub placed-walk : (st : State) → map unnumbered (walk s job es st os ms) ≡ map unnumbered (walk s job es' st os ms)
  unfolding walk
  placed-walk st = readings_alike (length os + 1) st 0

  pub placed-walked : (st : State) → walked s job es st os ms ≡ walked s job es' st os ms
  unfolding walked
  placed-walked st =
      sym (ends_same 0 st (walk s job es st os ms)) ∙ ap (walk_of 0 st) (placed-walk st) ∙ ends_same 0 st (walk s job es' st os ms)
