-- `crossing::give_record` meets its contract: what is written over 16 octets is the record's octets. Assumes nothing.
use mathlib.Core.Path.{sym, ap, ◌∙◌}
use Rattle.reading_log.proofs.Records.{record_over}
use Rattle.crossing.specs.Given.{record_given, record_left, record_told}
use borrow.Author.Rules.{rules}
use Rattle.crossing.proofs.give_record.Goals as goal

pub returns-in-Ok : goal.returns-in-Ok
unfolding record_told record_left
returns-in-Ok c = ap (record_given 0) (c.write_record.ensures ∙ record_over _ _ (search rules)) ∙ sym (ap (record_told _) c.in-Ok.is)
