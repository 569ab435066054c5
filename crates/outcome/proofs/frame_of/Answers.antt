-- `outcome::frame_of` meets its contract. Assumes nothing.
use mathlib.Core.Path.{sym}
use Rattle.line.specs.Limits.{preamble_size}
use Rattle.fcs.proofs.Laws.{last-part}
use Rattle.outcome.proofs.Rules.{frame-none}
use Rattle.outcome.specs.Outcomes.{frame_of}
use Rattle.outcome.proofs.frame_of.Goals as goal

pub returns-then-run-lt-PREAMBLE_SIZE : goal.returns-then-run-lt-PREAMBLE_SIZE
returns-then-run-lt-PREAMBLE_SIZE c = sym (frame-none _ c.if-run-lt-PREAMBLE_SIZE.true)

pub returns : goal.returns
unfolding frame_of
returns c = last-part preamble_size c.args.run.now
