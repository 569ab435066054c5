-- `station::outcome_number` meets its contract: each arm gives the definition's number at its variant. Assumes nothing.
use Rattle.std.proofs.Common.{refl}
use Rattle.station.proofs.outcome_number.Goals as goal

pub returns-in-Cut : goal.returns-in-Cut
returns-in-Cut c = rw c.in-Cut.is refl

pub returns-in-BadPreamble : goal.returns-in-BadPreamble
returns-in-BadPreamble c = rw c.in-BadPreamble.is refl

pub returns-in-Undersized : goal.returns-in-Undersized
returns-in-Undersized c = rw c.in-Undersized.is refl

pub returns-in-Oversized : goal.returns-in-Oversized
returns-in-Oversized c = rw c.in-Oversized.is refl

pub returns-in-WrongFcs : goal.returns-in-WrongFcs
returns-in-WrongFcs c = rw c.in-WrongFcs.is refl

pub returns-in-WrongLength : goal.returns-in-WrongLength
returns-in-WrongLength c = rw c.in-WrongLength.is refl

pub returns-in-Filtered : goal.returns-in-Filtered
returns-in-Filtered c = rw c.in-Filtered.is refl

pub returns-in-PauseTaken : goal.returns-in-PauseTaken
returns-in-PauseTaken c = rw c.in-PauseTaken.is refl

pub returns-in-PfcTaken : goal.returns-in-PfcTaken
returns-in-PfcTaken c = rw c.in-PfcTaken.is refl

pub returns-in-ControlDropped : goal.returns-in-ControlDropped
returns-in-ControlDropped c = rw c.in-ControlDropped.is refl

pub returns-in-HandedOut : goal.returns-in-HandedOut
returns-in-HandedOut c = rw c.in-HandedOut.is refl
