-- The C face of the plain reader (document 02, item 12): what its numbers and octets stand for, and what a symbol leaves of them. Decoding is total: any are
-- some reader.
use Rattle.std.specs.Prelude.{ℕ, ◌%◌, cond, List, [], ◌∷◌, get_or, replicate, eqb}
use Rattle.station.specs.declared.State.{State}
use Rattle.station.specs.Numbers.{refusal_number, outcome_number}
use Rattle.kept.specs.declared.Run.{Run}
use Rattle.kept.specs.declared.Told.{Told}
use Rattle.kept.specs.declared.Told.TheVariants.{Quiet, Counted}
use Rattle.plain.specs.declared.Plain.{Plain}
use Rattle.crossing.specs.Records.{is_on, low_at, state_numbers}

-- ---- what crosses to the module

-- what is kept of a run, of the reader's numbers and its octets: "of start and register the low 32 bits are read, of the count the low 16"
unfoldable pub run_of : List ℕ → List ℕ → List ℕ → Run
run_of n first last = record { start = low_at n 2; count = get_or n 3 0 % 65536; first = first; last = last; register = low_at n 4 }

-- a reader, of 8 numbers (place, whether a run is in progress, the Start's place, count, register), the first octets, the last four and the state
unfoldable pub plain_of : List ℕ → List ℕ → List ℕ → State → Plain
plain_of n first last st = record { place = low_at n 0; running = is_on n 1; run = run_of n first last; state = st }

-- ---- what crosses back

-- a reader's numbers, and zeros for what is kept for later
unfoldable pub plain_numbers : Plain → List ℕ
plain_numbers p = p.place ∷ cond p.running 1 0 ∷ p.run.start ∷ p.run.count ∷ p.run.register ∷ replicate 3 0

-- what is told at a symbol, as 8 numbers: refusal, 1 if a Start was counted, outcome, status word, the client data's place and length, which address let the
-- frame in, and a zero
unfoldable pub told_numbers : Told → List ℕ
told_numbers (Told.Refused x) = refusal_number x ∷ replicate 7 0
told_numbers Quiet = replicate 8 0
told_numbers (Counted o w p v) = 0 ∷ 1 ∷ outcome_number o ∷ w ∷ p.at ∷ p.len ∷ v ∷ 0 ∷ []

-- ---- what stands behind its pointers after a symbol

pub record ReaderGiven : Type 0 where
  pub numbers : List ℕ
  pub first : List ℕ
  pub last : List ℕ

abbrev pub reader_given : List ℕ → List ℕ → List ℕ → ReaderGiven
reader_given n f l = record { numbers = n; first = f; last = l }

-- of a reader
unfoldable pub reader_told : Plain → ReaderGiven
reader_told p = reader_given (plain_numbers p) p.run.first p.run.last

-- "with the state kept": a refusal leaves the reader as it was, to the bit
unfoldable pub reader_left : ℕ → ReaderGiven → Plain → ReaderGiven
reader_left refusal before p = cond (eqb refusal 0) (reader_told p) before

-- and a symbol that counts no Start leaves the state's numbers so too
unfoldable pub counted_left : ℕ → List ℕ → State → List ℕ
counted_left counted before st = cond (eqb counted 1) (state_numbers st) before
