-- Document 01, "The printing program": what it prints, by what it reads.
use Rattle.std.proofs.Common.{sym, ap}
use Rattle.std.specs.Prelude.{◌≡◌, ℕ, ◌+◌, ◌*◌, ◌%◌, Bool, true, false, cond, ◌||◌, List, [], ◌∷◌, ◌++◌, length, eqb, ltb}
use Rattle.line.specs.Limits.{least_limit, most_records}
use Rattle.station.specs.declared.Settings.{Settings}
use Rattle.station.specs.declared.Flow.TheVariants.{Off}
use Rattle.station.specs.Numbers.{outcome_number}
use Rattle.station.specs.Station.{fresh}
use Rattle.table.specs.declared.Entry.{Entry}
use Rattle.table.specs.Entries.{entries_of}
use Rattle.table.specs.Calls.{empty_table}
use Rattle.receive.specs.declared.Answer.TheVariants.{Refused, Nothing, Open, Counted}
use Rattle.receive.specs.declared.Reading.{Reading}
use Rattle.receive.specs.Walk.{walk}
use Rattle.printing.specs.Decimal.{decimal}

abbrev pub space : ℕ
space = 32

abbrev pub newline : ℕ
newline = 10

-- "Settings: own 02-00-00-00-00-01, none listed, broadcast on, promiscuous off, checking on, M 1518, flow none, `pass control` off."
unfoldable pub program_settings : Settings
program_settings =
    record {
      own = record { 0 = 2 ∷ 0 ∷ 0 ∷ 0 ∷ 0 ∷ 1 ∷ [] };
      broadcast = true;
      promiscuous = false;
      checking = true;
      limit = least_limit;
      flow = Off;
      passing = false;
    }

-- "none listed": the program is job 0, with a table that nobody holds an entry of (document 02, item 10)
abbrev pub program_job : ℕ
program_job = 0

unfoldable pub program_table : List Entry
program_table = entries_of empty_table

-- a number and the octet after it
unfoldable pub followed : ℕ → ℕ → List ℕ
followed n x = decimal n ++ (x ∷ [])

-- four numbers, a space between them, and a newline
unfoldable pub four_numbers : ℕ → ℕ → ℕ → ℕ → List ℕ
four_numbers a b c d = followed a space ++ followed b space ++ followed c space ++ followed d newline

-- "Last line: the word `starts`, the number of counted Starts, the word `open`, then 1 if the walk ended `open`, else 0."
unfoldable pub last_line : ℕ → ℕ → List ℕ
last_line n o =
    (115 ∷ 116 ∷ 97 ∷ 114 ∷ 116 ∷ 115 ∷ space ∷ []) ++ followed n space ++ (111 ∷ 112 ∷ 101 ∷ 110 ∷ space ∷ []) ++ followed o newline

-- the lines of readings, where n Starts are counted already: "One line per counted Start: its place, outcome, status word, octets handed out, all
-- decimal", and the last line. No reading of the program is refused.
unfoldable pub lines_of : ℕ → List Reading → List ℕ
lines_of n [] = last_line n 0
lines_of n (r ∷ rs) =
    elim r.answer [
      | Refused x ↦ last_line n 0
      | Nothing ↦ last_line n 0
      | Open ↦ last_line n 1
      | Counted o w p v ↦ four_numbers r.start (outcome_number o) w p.len ++ lines_of (n + 1) rs
    ]

-- what is printed of a capture: the lines of its whole walk, from a fresh state
unfoldable pub capture_lines : List ℕ → List ℕ → List ℕ
capture_lines os ms = lines_of 0 (walk program_settings program_job program_table fresh os ms)

-- "records of two octets, mark then octet": the marks and the octets of whole records
unfoldable pub record_marks : List ℕ → List ℕ
record_marks [] = []
record_marks (m ∷ []) = []
record_marks (m ∷ o ∷ rest) = m ∷ record_marks rest

unfoldable pub record_octets : List ℕ → List ℕ
record_octets [] = []
record_octets (m ∷ []) = []
record_octets (m ∷ o ∷ rest) = o ∷ record_octets rest

-- "at most 32,768 records. An odd or longer input prints `bad input` alone."
unfoldable pub bad_input : List ℕ → Bool
bad_input input = eqb (length input % 2) 1 || ltb (2 * most_records) (length input)

unfoldable pub printed : List ℕ → List ℕ
printed input =
    cond (bad_input input)
    (98 ∷ 97 ∷ 100 ∷ space ∷ 105 ∷ 110 ∷ 112 ∷ 117 ∷ 116 ∷ newline ∷ [])
    (capture_lines (record_octets input) (record_marks input))

-- so of an input that is not good it prints `bad input`
pub printed_bad : (input : List ℕ) → bad_input input ≡ true → (98 ∷ 97 ∷ 100 ∷ 32 ∷ 105 ∷ 110 ∷ 112 ∷ 117 ∷ 116 ∷ 10 ∷ []) ≡ printed input
unfolding printed
printed_bad input bad =
    sym (ap (λ (b : Bool). cond b (98 ∷ 97 ∷ 100 ∷ 32 ∷ 105 ∷ 110 ∷ 112 ∷ 117 ∷ 116 ∷ 10 ∷ []) (capture_lines (record_octets input) (record_marks input))) bad)
