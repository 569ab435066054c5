-- The lines of the records of a good input are what is printed of it. Assumes nothing.
use Rattle.printing.proofs.Shows.{shown_as}
use Rattle.printing.proofs.Records.{good_printed}
use Rattle.printing.proofs.ReadingsOutput.show_good.Goals as goal

pub returns-clause-shown : goal.returns-clause-shown
returns-clause-shown c = shown_as (good_printed c.args.input.now c.requires) c.show_records.ensures.shown
