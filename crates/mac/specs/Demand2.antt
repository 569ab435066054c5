-- Demand 2: what the claims on a walk speak of. The theorems are proofs/Walk.antt and proofs/Sum.antt.
use Rattle.std.specs.Prelude.{ℕ, ◌+◌, ◌≡◌, Bool, true, false, cond, List, [], ◌∷◌, ◌++◌, eqb, Ok, Option}
use Rattle.line.specs.Line.{AfterStart, unended, ended, MetStart}
use Rattle.line.specs.Table.{first}
use Rattle.station.specs.declared.Address.{Address}
use Rattle.station.specs.declared.Settings.{Settings}
use Rattle.station.specs.declared.Outcome.{Outcome}
use Rattle.station.specs.declared.Part.{Part}
use Rattle.station.specs.Numbers.{outcome_number}
use Rattle.table.specs.declared.Entry.{Entry}
use Rattle.receive.specs.declared.Answer.{Answer}
use Rattle.receive.specs.declared.Answer.TheVariants.{Refused, Nothing, Open, Counted}
use Rattle.receive.specs.declared.Reading.{Reading}
use Rattle.outcome.specs.Outcomes.{outcome}
use Rattle.receive.specs.Reading.{read_refusals}

-- a capture, settings, a job and an address table with which no reading from place 0 on is refused: refusals 1, 14, 2 and 20 do not hold
abbrev pub Readable : Settings → ℕ → List Entry → List ℕ → List ℕ → Type 0
Readable s job es os ms = first (read_refusals s job es os ms 0) ≡ Ok tt

-- ---- "Each Start in a capture, but for a last one whose run hasn't ended, gets the one outcome"

-- the places of the Starts that readings found, in order
unfoldable pub place_found : Answer → ℕ → List ℕ
place_found (Refused x) place = []
place_found Nothing place = []
place_found Open place = place ∷ []
place_found (Counted o w p v) place = place ∷ []

unfoldable pub places_found : List Reading → List ℕ
places_found [] = []
places_found (r ∷ rs) = place_found r.answer r.start ++ places_found rs

-- the places of the Start symbols of a capture, in order
unfoldable pub start_places : List MetStart → List ℕ
start_places [] = []
start_places (m ∷ ms) = m.place ∷ start_places ms

-- readings that each count a Start, and then one that is `none` or `open`
pub data Whole : List Reading → Type 0 where
  ends_none : {r : Reading} → r.answer ≡ Nothing → Whole (r ∷ [])
  ends_open : {r : Reading} → r.answer ≡ Open → Whole (r ∷ [])
  counts : {r : Reading} {rs : List Reading} (o : Outcome) (w : ℕ) (p : Part) (v : ℕ) → r.answer ≡ Counted o w p v → Whole rs → Whole (r ∷ rs)

-- the last reading was `open`
unfoldable pub is_open : Answer → Bool
is_open (Refused x) = false
is_open Nothing = false
is_open Open = true
is_open (Counted o w p v) = false

unfoldable pub ends_open_test : List Reading → Bool
ends_open_test [] = false
ends_open_test (r ∷ []) = is_open r.answer
ends_open_test (r ∷ q ∷ rs) = ends_open_test (q ∷ rs)

-- the run of the last Start has not ended
unfoldable pub is_unended : AfterStart → Bool
is_unended unended = true
is_unended (ended run by) = false

unfoldable pub last_unended : List MetStart → Bool
last_unended [] = false
last_unended (m ∷ []) = is_unended m.follows
last_unended (m ∷ n ∷ ms) = last_unended (n ∷ ms)

-- ---- "its counter rises by one modulo" 2^64

-- "less one if the walk ended `open`"
unfoldable pub one_if : Bool → ℕ
one_if b = cond b 1 0

-- the number of Starts that have an outcome, for a job whose own entries are `own`
unfoldable pub has : Settings → List (Option Address) → Outcome → AfterStart → Bool
has s own o unended = false
has s own o (ended run by) = eqb (outcome_number (outcome s own run by)) (outcome_number o)

unfoldable pub starts_with : Settings → List (Option Address) → Outcome → List MetStart → ℕ
starts_with s own o [] = 0
starts_with s own o (m ∷ ms) = one_if (has s own o m.follows) + starts_with s own o ms
