-- `receive::handed_part` meets its contract. Assumes nothing.
use Rattle.std.proofs.Common.{rules, ℕ, ◌+◌, List, length, ap, ◌∙◌}
use Rattle.frame.specs.Length.{handed_of}
use Rattle.receive.specs.Steps.{part_at}
use Rattle.receive.proofs.Parts.{no_part}
use borrow.Enum.Refused.{opened}
use Rattle.receive.proofs.handed_part.Goals as goal

pub returns-in-HandedOut : goal.returns-in-HandedOut
unfolding part_at
returns-in-HandedOut c =
    let a = c.args in
    rw c.in-HandedOut.is
    (ap (λ (n : ℕ). record { at = a.at + a.l.place; len = n })
    (c.handed_length.ensures ∙ ap (λ (d : List ℕ). length (handed_of a.checking a.l.field d)) c.frame_data.ensures))

pub returns-in_default : goal.returns-in_default
returns-in_default c = let a = c.args in no_part a.checking a.o a.at a.f.now a.l (let h = c.in_default in search (rules, opened))
