-- `send::check_pfc` meets its contract: a PFC frame has 60 octets that its FCS covers. Assumes nothing.
use mathlib.Core.Path.{◌≡◌}
use lib.ListN.{length}
use borrow.Author.Rules.{rules}
use Rattle.send.specs.Sending.{pfc_checked}
use Rattle.writing.proofs.Sizes.{pfc-body_size}
use Rattle.send.proofs.Refusals.{in_mode}
use Rattle.send.proofs.check_pfc.Goals as goal
use Rattle.send.proofs.check_pfc.Goals.{Start}

own-6 : (c : Start) → length c.args.s.own.0 ≡ 6
own-6 c = search rules

pub returns : goal.returns
unfolding pfc_checked
returns c = λ k eight.
    in_mode _ _ _ _ _ _ _ (c.check_control.ensures _ (pfc-body_size c.args.s k (own-6 (goal.at.returns c).Start) eight)) c.is_pfc_mode.ensures
