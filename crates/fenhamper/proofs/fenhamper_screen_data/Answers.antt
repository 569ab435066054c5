-- `fenhamper::fenhamper_screen_data` meets its contract. Assumes nothing.
use Rattle.fenhamper.proofs.Calls.{screen_crosses}
use Rattle.fenhamper.proofs.fenhamper_screen_data.Goals as goal

pub returns : goal.returns
returns c = screen_crosses _ _ _ _ _ _ _ _ _ _ c.of_job-octets.ensures c.of_job-marks.ensures c.fenhamper_read.ensures
