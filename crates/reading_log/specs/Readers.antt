-- Document 02, item 4: "A reader that keeps the lent log and its place and hands out the next record"; item 11: "The reader skips deleted records".
use Rattle.std.specs.Prelude.{ℕ, ◌+◌, true, false, List, [], ◌∷◌, drop, Result, Ok, Err}
use Rattle.std.specs.Borrow.{Bor}
use Rattle.reading_log.specs.declared.Record.{Record}
use Rattle.reading_log.specs.declared.LogRefusal.{LogRefusal}
use Rattle.reading_log.specs.declared.Step.{Step}
use Rattle.reading_log.specs.declared.Reader.{Reader}
use Rattle.reading_log.specs.Log.{is_used, slots, record_read}

-- how many stand in front of the first used one
unfoldable pub skipped : List (List ℕ) → ℕ
skipped [] = 0
skipped (s ∷ ss) = elim (is_used s) [ true ↦ 0 | false ↦ 1 + skipped ss ]

-- the first used record from a number on, which is "the next record"; where there is none, one behind the last
unfoldable pub next_used : List ℕ → ℕ → ℕ
next_used l at = at + skipped (drop at (slots l))

-- what is handed out from a number on, by what is read of record k, the next one, and the number after that: behind that record, and the same after a
-- refusal
unfoldable pub step_of : Result Record LogRefusal → ℕ → ℕ → Step
step_of (Err x) at k = record { read = Err x; at = at }
step_of (Ok r) at k = record { read = Ok r; at = k + 1 }

unfoldable pub next_step : List ℕ → ℕ → Step
next_step l at = step_of (record_read l (next_used l at)) at (next_used l at)

-- a reader of a lent log from its first record on
unfoldable pub reader_of : Bor (List ℕ) → Reader
reader_of l = record { log = l; at = 0 }

-- what a reader hands out, and the reader after that: a record, so that a promise is one equation
pub record Handing : Type 0 where
  pub given : Result Record LogRefusal
  pub reader : Reader

abbrev pub handing : Result Record LogRefusal → Reader → Handing
handing x r = record { given = x; reader = r }

-- it keeps its log, and moves its place on
unfoldable pub hand_out : Reader → Handing
hand_out r = handing (next_step r.log.now r.at).read (record { log = r.log; at = (next_step r.log.now r.at).at })
