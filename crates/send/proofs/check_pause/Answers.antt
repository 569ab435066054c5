-- `send::check_pause` meets its contract: a pause frame has 60 octets that its FCS covers. Assumes nothing.
use mathlib.Core.Path.{◌≡◌}
use lib.ListN.{length}
use borrow.Author.Rules.{rules}
use Rattle.send.specs.Sending.{pause_checked}
use Rattle.writing.proofs.Sizes.{pause-body_size}
use Rattle.send.proofs.Refusals.{in_mode}
use Rattle.send.proofs.check_pause.Goals as goal
use Rattle.send.proofs.check_pause.Goals.{Start}

own-6 : (c : Start) → length c.args.s.own.0 ≡ 6
own-6 c = search rules

pub returns : goal.returns
unfolding pause_checked
returns c = λ q.
    in_mode _ _ _ _ _ _ _ (c.check_control.ensures _ (pause-body_size c.args.s q (own-6 (goal.at.returns c).Start))) c.is_pause_mode.ensures
