-- `outcome::status` meets its contract: each arm computes the definition at its outcome. Assumes nothing.
use lib.ListN.{length}
use Rattle.frame.specs.Frame.{data_from}
use Rattle.outcome.proofs.Words.{no_word}
use Rattle.outcome.specs.Status.{frame_bits, status_of}
use borrow.Enum.Refused.{opened}
use Rattle.outcome.proofs.status.Goals as goal

pub returns-in-PauseTaken : goal.returns-in-PauseTaken
unfolding status_of
returns-in-PauseTaken c = rw (c.in-PauseTaken.is, c.frame_bits.ensures.0, c.data_length.ensures.0)

pub returns-in-PfcTaken : goal.returns-in-PfcTaken
unfolding status_of
returns-in-PfcTaken c = rw (c.in-PfcTaken.is, c.frame_bits-in-PfcTaken.ensures.0, c.data_length-in-PfcTaken.ensures.0)

pub returns-in-ControlDropped : goal.returns-in-ControlDropped
unfolding status_of
returns-in-ControlDropped c = rw (c.in-ControlDropped.is, c.frame_bits-in-ControlDropped.ensures.0, c.data_length-in-ControlDropped.ensures.0)

pub returns-in-HandedOut : goal.returns-in-HandedOut
unfolding status_of
returns-in-HandedOut c = rw (c.in-HandedOut.is, c.frame_bits-in-HandedOut.ensures.0)

pub returns-in_default : goal.returns-in_default
unfolding status_of
returns-in_default c =
    let a = c.args in
    no_word (frame_bits a.l.tags a.f.now) (length (data_from a.l.place a.f.now)) a.handed a.o (opened c.in_default.in_default-own.keys5)
