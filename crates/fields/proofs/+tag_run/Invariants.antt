-- `fields::tag_run`: the measure is how many tags may still come. Assumes nothing.
use Rattle.fields.proofs.+tag_run.Given as goal

abbrev pub decreases-tag_run : goal.decreases-tag_run
decreases-tag_run l = l.most
