-- `logging::record_of` meets its contract: each case of the answer gives its outcome, number of the address, octets handed out and status word. Assumes nothing.
use Prim.Native.Nat.{ℕ}
use mathlib.Core.Path.{sym, ap, ◌∙◌}
use mathlib.Core.Logic.{⊎_elim}
use Rattle.receive.specs.declared.Answer.{Answer}
use Rattle.reading_log.specs.declared.Record.{Record}
use Rattle.receive.specs.Values.{answer_outcome, answer_status, answer_part, answer_way}
use Rattle.logging.specs.Records.{record_at, record_of_reading}
use Rattle.logging.proofs.record_of.Goals as goal

-- the record of a Start at this place, by the answer
abbrev answered : ℕ → Answer → Record
answered start a = record_at start (answer_outcome a) (answer_way a) (answer_part a).len (answer_status a)

pub returns-in-Refused : goal.returns-in-Refused
unfolding record_of_reading
returns-in-Refused c =
    let told = answered c.args.r.start in
    c.record_at.ensures ∙ ⊎_elim (λ e. ap told (sym e.1)) (⊎_elim (λ e. ap told (sym e)) (λ e. ap told (sym e))) c.in-Refused.is

pub returns-in-Counted : goal.returns-in-Counted
unfolding record_of_reading
returns-in-Counted c =
    let start = c.args.r.start in
    c.record_at-in-Counted.ensures
    ∙ ap (λ (n : ℕ). record_at start n c.in-Counted.way c.in-Counted.part.len c.in-Counted.word) c.outcome_number.ensures
    ∙ ap (answered start) (sym c.in-Counted.is)
