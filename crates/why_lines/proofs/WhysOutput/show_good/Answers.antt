-- The lines of the records of a good input are what is printed of it. Assumes nothing.
use Rattle.printing.proofs.Shows.{shown_as}
use Rattle.why_lines.proofs.Laws.{good_printed}
use Rattle.why_lines.proofs.WhysOutput.show_good.Goals as goal

pub returns-clause-shown : goal.returns-clause-shown
returns-clause-shown c = shown_as (good_printed c.args.input.now c.requires) c.show_records.ensures.shown
