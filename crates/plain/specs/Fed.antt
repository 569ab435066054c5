-- Document 02, item 12: the reader over a whole capture, and what the claims of proofs/Walk.antt compare with the walk.
use Rattle.receive.specs.Values.{walk_ended}
use Rattle.std.specs.Prelude.{ℕ, cond, List, [], ◌∷◌, ◌++◌}
use Rattle.line.specs.Line.{Symbol}
use Rattle.station.specs.declared.Settings.{Settings}
use Rattle.table.specs.declared.Entry.{Entry}
use Rattle.receive.specs.declared.Answer.{Answer}
use Rattle.receive.specs.declared.Answer.TheVariants.{Nothing, Open}
use Rattle.receive.specs.declared.Reading.{Reading}
use Rattle.receive.specs.declared.Walking.{Walking}
use Rattle.kept.specs.declared.Told.{Told}
use Rattle.kept.specs.declared.Told.TheVariants.{Quiet}
use Rattle.plain.specs.declared.Plain.{Plain}
use Rattle.plain.specs.declared.Step.{Step}
use Rattle.plain.specs.Plain.{step}

-- the reader after symbols, one after the other
unfoldable pub fed : Settings → ℕ → List Entry → Plain → List Symbol → Plain
fed s job es p [] = p
fed s job es p (x ∷ xs) = fed s job es (step s job es p x).plain xs

-- what it told meanwhile, but for the symbols at which it said nothing
unfoldable pub unless_quiet : Told → List Told
unless_quiet (Told.Refused x) = Told.Refused x ∷ []
unless_quiet Quiet = []
unless_quiet (Told.Counted o w p v) = Told.Counted o w p v ∷ []

unfoldable pub tellings : Settings → ℕ → List Entry → Plain → List Symbol → List Told
tellings s job es p [] = []
tellings s job es p (x ∷ xs) = unless_quiet (step s job es p x).told ++ tellings s job es (step s job es p x).plain xs

-- "the same outcomes, status words", with the data's place and length and item 7's number: what a walk's readings say of the Starts that they counted
unfoldable pub telling_of : Answer → List Told
telling_of (Answer.Refused x) = Told.Refused x ∷ []
telling_of Nothing = []
telling_of Open = []
telling_of (Answer.Counted o w p v) = Told.Counted o w p v ∷ []

unfoldable pub tellings_of : List Reading → List Told
tellings_of [] = []
tellings_of (r ∷ rs) = telling_of r.answer ++ tellings_of rs

-- "counters and timers … and stop with a run in progress exactly when the walk says `open`": a reader's end as a walk's, with n Starts counted
unfoldable pub plain_end : ℕ → Plain → Walking
plain_end n p = record { answer = walk_ended n p.running; state = p.state }

-- ---- the reader's readings: what it tells at a symbol, as a reading of the Start whose run that symbol ends, and `none` or `open` at the end

-- of a reader p and its step
unfoldable pub plain_reading : Plain → Step → List Reading → List Reading
plain_reading p k rs =
    elim k.told [
      | Told.Refused x ↦ record { answer = Answer.Refused x; start = p.place; next = p.place; state = p.state } ∷ []
      | Quiet ↦ rs
      | Told.Counted o w q v ↦ record { answer = Answer.Counted o w q v; start = p.run.start; next = p.place; state = k.plain.state } ∷ rs
    ]

-- where no symbol is left
unfoldable pub plain_last : Plain → Reading
plain_last p =
    cond p.running
    (record { answer = Open; start = p.run.start; next = p.run.start; state = p.state })
    (record { answer = Nothing; start = p.place; next = p.place; state = p.state })

-- of all symbols, up to one that is refused
unfoldable pub plain_readings : Settings → ℕ → List Entry → Plain → List Symbol → List Reading
plain_readings s job es p [] = plain_last p ∷ []
plain_readings s job es p (x ∷ xs) =
    plain_reading p (step s job es p x) (plain_readings s job es (step s job es p x).plain xs)
