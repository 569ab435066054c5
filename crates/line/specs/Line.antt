-- Document 01, "The line", and what "Reading one Start" says of a capture before any rule is tried.
--
-- Every definition stands on ONE list of symbols. The code has two lent buffers, and a contract says
-- `capture octets.now marks.now`. Refusal 2 sees to it that the two are equally long, so nothing is cut off.
use Rattle.std.specs.Prelude.{ℕ, ◌+◌, Bool, true, false, not, ◌&&◌, List, [], ◌∷◌, ◌++◌, length, take, drop, eqb, Option, Some, None}

-- ---- The line

-- "A symbol is an octet and a mark"
pub record Symbol : Type 0 where
  pub octet : ℕ
  pub mark : ℕ

-- "kept in two lent buffers of equal length": the capture as one list
unfoldable pub capture : List ℕ → List ℕ → List Symbol
capture [] ms = []
capture (o ∷ os) [] = []
capture (o ∷ os) (m ∷ ms) = record { octet = o; mark = m } ∷ capture os ms

-- the two buffers of a list of symbols
unfoldable pub octets_of : List Symbol → List ℕ
octets_of [] = []
octets_of (x ∷ xs) = x.octet ∷ octets_of xs

unfoldable pub marks_of : List Symbol → List ℕ
marks_of [] = []
marks_of (x ∷ xs) = x.mark ∷ marks_of xs

-- "Mark 0 is data; any other mark is control."
unfoldable pub is_data : Symbol → Bool
is_data x = eqb x.mark 0

unfoldable pub is_control : Symbol → Bool
is_control x = not (is_data x)

-- "We write 0 for data and 1 for control."
unfoldable pub as_data : ℕ → Symbol
as_data o = record { octet = o; mark = 0 }

unfoldable pub as_control : ℕ → Symbol
as_control o = record { octet = o; mark = 1 }

-- "Idle 0x07, Start 0xFB, Terminate 0xFD, Error 0xFE. Any other control octet … is treated like Error": no rule tells Error from the others
abbrev pub idle : ℕ
idle = 0x07

abbrev pub start : ℕ
start = 0xFB

abbrev pub terminate : ℕ
terminate = 0xFD

unfoldable pub is_start : Symbol → Bool
is_start x = is_control x && eqb x.octet start

-- "six data octets 0x55; data 0xD5"
unfoldable pub preamble : List ℕ
preamble = 0x55 ∷ 0x55 ∷ 0x55 ∷ 0x55 ∷ 0x55 ∷ 0x55 ∷ 0xD5 ∷ []

-- ---- Reading one Start

-- the place of the first symbol for which a test holds; `at` is the place of the list's first symbol
unfoldable pub first_where : (Symbol → Bool) → ℕ → List Symbol → Option ℕ
first_where test at [] = None
first_where test at (x ∷ xs) = elim (test x) [ true ↦ Some at | false ↦ first_where test (at + 1) xs ]

-- "the first Start at that place or later"
unfoldable pub find_start : List Symbol → ℕ → Option ℕ
find_start c place = first_where is_start place (drop place c)

-- "the first control symbol", at a place or later
unfoldable pub find_control : List Symbol → ℕ → Option ℕ
find_control c place = first_where is_control place (drop place c)

-- "the run is the data symbols after the Start up to the first control symbol": of what follows the Start
unfoldable pub run : List Symbol → List ℕ
run [] = []
run (x ∷ xs) = elim (is_data x) [ true ↦ x.octet ∷ run xs | false ↦ [] ]

-- "the ending control symbol", if "there is … such symbol"
unfoldable pub ending : List Symbol → Option Symbol
ending [] = None
ending (x ∷ xs) = elim (is_data x) [ true ↦ ending xs | false ↦ Some x ]

-- what follows a Start: a run that no control symbol ends, or a run and the octet of the control symbol that ends it
pub data AfterStart : Type 0 where
  unended : AfterStart
  ended : List ℕ → ℕ → AfterStart

unfoldable pub ended_by : List ℕ → Option Symbol → AfterStart
ended_by r None = unended
ended_by r (Some x) = ended r x.octet

unfoldable pub after_start : List Symbol → AfterStart
after_start l = ended_by (run l) (ending l)

-- a Start symbol of a capture: its place, and what follows it
pub record MetStart : Type 0 where
  pub place : ℕ
  pub follows : AfterStart

-- "walked Start by Start": every Start symbol of the list, in order; `at` is the place of the list's first symbol
unfoldable pub met_starts : ℕ → List Symbol → List MetStart
met_starts at [] = []
met_starts at (x ∷ xs) =
    elim (is_start x) [ true ↦ record { place = at; follows = after_start xs } ∷ met_starts (at + 1) xs | false ↦ met_starts (at + 1) xs ]

-- "the number of Start symbols in the capture"
unfoldable pub start_count : List Symbol → ℕ
start_count [] = 0
start_count (x ∷ xs) = elim (is_start x) [ true ↦ 1 + start_count xs | false ↦ start_count xs ]

-- ---- Sending: "written into the line buffers from the place the caller names on; every other symbol stays"

-- for a list of symbols, and for each of the two buffers
unfoldable pub overwrite : {A : Type 0} → List A → ℕ → List A → List A
overwrite l at new = take at l ++ new ++ drop (at + length new) l
