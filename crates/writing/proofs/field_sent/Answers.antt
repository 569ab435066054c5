-- `writing::field_sent` meets its contract: by cases. Assumes nothing.
use Rattle.writing.specs.Frames.{field_sent}
use Rattle.writing.proofs.field_sent.Goals as goal

pub returns-in-ByLength : goal.returns-in-ByLength
unfolding field_sent
returns-in-ByLength c = rw c.in-ByLength.is

pub returns-in-ByType : goal.returns-in-ByType
unfolding field_sent
returns-in-ByType c = rw c.in-ByType.is
