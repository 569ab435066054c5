-- `send::fill_idle` meets its contract: refused, or written. Assumes nothing.
use Rattle.std.specs.Prelude.{Ok}
use native.Mathlib.Omega.{arith}
use mathlib.Core.Path.{◌≡◌, sym, ◌∙◌}
use Rattle.send.specs.Sending.{idle_checked, idle_sending}
use Rattle.send.proofs.Refusals.{passed-idle}
use Rattle.send.proofs.Calls.{call_refused, call_wrote}
use Rattle.writing.proofs.Sizes.{idle_size}
use Rattle.send.proofs.fill_idle.Goals as goal
use Rattle.send.proofs.fill_idle.Goals.{In_default}

fine : (c : In_default) → let a = c.args in idle_checked a.octets.now a.marks.now a.place a.n ≡ Ok tt
fine c = sym c.check_idle.ensures ∙ c.in_default.is

pub returns-in-Err : goal.returns-in-Err
unfolding idle_sending
returns-in-Err c =
    call_refused _ _ _ _ _ _ _ _ (sym c.check_idle.ensures ∙ c.in-Err.is) c.refused.ensures

pub idle_at-next-requires : goal.idle_at-next-requires
idle_at-next-requires c =
    let k = passed-idle _ _ _ _ (fine (goal.at.idle_at-next-requires c).In_default) in
    let z = idle_size c.args.n in
    let e = k.even in
    let r = k.room in
    (omega arith, omega arith)

pub returns : goal.returns
unfolding idle_sending
returns c =
    call_wrote _ _ _ _ _ _ _ (fine (goal.at.returns c).In_default) c.idle_at-next.ensures c.wrote.ensures
