-- Document 02, item 9, "Starts per stretch": a total for each block of 256 symbols beside a capture, and how many Starts lie before a place.
use Rattle.station.specs.Numbers.{Checked}
use Rattle.station.specs.declared.Refusal.{Refusal}
use Rattle.std.specs.Prelude.{ℕ, zero, suc, ◌+◌, ◌-◌, ◌*◌, ◌/◌, Bool, false, not, cond, ◌&&◌, ◌||◌, List, [], ◌∷◌, length, take, drop, eqb, ltb, Err, Ok, Result}
use Rattle.line.specs.Limits.{block_size, most_total}
use Rattle.line.specs.Line.{Symbol, capture, start_count}
use Rattle.line.specs.Table.{Table, ◌⇒◌, ◌∣◌, otherwise, first}
use Rattle.station.specs.declared.Refusal.TheVariants.{BadBuffers, BadPlace, WrongTotals, HighTotal}
use Rattle.station.specs.Numbers.{refusal_number}
use Rattle.station.specs.Station.{bad_buffers, bad_place, total}

-- ---- the totals

-- "the number of blocks, a last short one included", of n symbols
abbrev pub blocks : ℕ → ℕ
blocks n = (n + (block_size - 1)) / block_size

-- the Starts from one place up to another
unfoldable pub starts_in : List Symbol → ℕ → ℕ → ℕ
starts_in c from to = start_count (take (to - from) (drop from c))

-- "a total for each block of 256 symbols": that of block k
unfoldable pub block_total : List Symbol → ℕ → ℕ
block_total c k = start_count (take block_size (drop (block_size * k) c))

-- of n blocks from block k on
unfoldable pub totals_from : List Symbol → ℕ → ℕ → List ℕ
totals_from c k zero = []
totals_from c k (suc n) = block_total c k ∷ totals_from c (k + 1) n

-- of all blocks: "whenever the totals are true", they are these
unfoldable pub true_totals : List Symbol → List ℕ
true_totals c = totals_from c 0 (blocks (length c))

-- ---- how many Starts lie before a place

-- "a count over everything before the place"
unfoldable pub starts_before : List Symbol → ℕ → ℕ
starts_before c place = start_count (take place c)

-- "The answer adds whole blocks and looks only into the last"
unfoldable pub answer : List ℕ → List Symbol → ℕ → ℕ
answer ts c place = total (take (place / block_size) ts) + starts_in c (block_size * (place / block_size)) place

-- ---- "counts anew the blocks it writes into and touches no other total"

-- block k holds one of the places from `from` up to `to`
unfoldable pub written_into : ℕ → ℕ → ℕ → Bool
written_into from to k = ltb from to && (ltb from (block_size * (k + 1)) && ltb (block_size * k) to)

-- of numbers from number k on, those that a test names made new
unfoldable pub renewed : (ℕ → Bool) → (ℕ → ℕ) → ℕ → List ℕ → List ℕ
renewed test new k [] = []
renewed test new k (t ∷ ts) = cond (test k) (new k) t ∷ renewed test new (k + 1) ts

-- the totals after symbols were written from a place up to another, of the capture that holds them
unfoldable pub recounted : List Symbol → ℕ → ℕ → List ℕ → List ℕ
recounted c from to ts = renewed (written_into from to) (block_total c) 0 ts

-- ---- refusals: "21 number of totals isn't the number of blocks, a last short one included; 22 a total above 256"

unfoldable pub wrong_totals : List ℕ → List ℕ → Bool
wrong_totals os ts = not (eqb (length ts) (blocks (length os)))

unfoldable pub high_total : List ℕ → Bool
high_total [] = false
high_total (t ∷ ts) = ltb most_total t || high_total ts

-- the question's: 2, 3 and, "after 3", 21 and 22
unfoldable pub before_refusals : List ℕ → List ℕ → ℕ → List ℕ → Table Checked
before_refusals os ms place ts =
    bad_buffers os ms ⇒ Err BadBuffers
    ∣ bad_place os place ⇒ Err BadPlace
    ∣ wrong_totals os ts ⇒ Err WrongTotals
    ∣ high_total ts ⇒ Err HighTotal
    ∣ otherwise (Ok tt)

-- "filling gives 2 and 21 only"
unfoldable pub fill_refusals : List ℕ → List ℕ → List ℕ → Table Checked
fill_refusals os ms ts =
    bad_buffers os ms ⇒ Err BadBuffers
    ∣ wrong_totals os ts ⇒ Err WrongTotals
    ∣ otherwise (Ok tt)

-- ---- the calls

unfoldable pub before_checked : Checked → List ℕ → List ℕ → ℕ → List ℕ → Result ℕ Refusal
before_checked (Err x) os ms place ts = Err x
before_checked (Ok _) os ms place ts = Ok (answer ts (capture os ms) place)

-- "how many Starts lie before a place"
unfoldable pub before_place : List ℕ → List ℕ → ℕ → List ℕ → Result ℕ Refusal
before_place os ms place ts = before_checked (first (before_refusals os ms place ts)) os ms place ts

-- a filling call's answer, and the lent totals: a record, so that a promise is one equation
pub record Filling : Type 0 where
  pub given : Checked
  pub totals : List ℕ

abbrev pub filling : Checked → List ℕ → Filling
filling r ts = record { given = r; totals = ts }

unfoldable pub fill_checked : Checked → List ℕ → List ℕ → List ℕ → Filling
fill_checked (Err x) os ms ts = filling (Err x) ts
fill_checked (Ok _) os ms ts = filling (Ok tt) (true_totals (capture os ms))

-- "one call fills them all for a capture"
unfoldable pub filled : List ℕ → List ℕ → List ℕ → Filling
filled os ms ts = fill_checked (first (fill_refusals os ms ts)) os ms ts

-- document 02's number of a refusal, 0 where there is an answer; and the answer
abbrev pub count_refusal : Result ℕ Refusal → ℕ
count_refusal (Ok n) = 0
count_refusal (Err x) = refusal_number x

abbrev pub count_starts : Result ℕ Refusal → ℕ
count_starts (Ok n) = n
count_starts (Err x) = 0
