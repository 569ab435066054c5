-- `logging::check_keep` meets its contract: a reading's refusal comes first, and 11 behind it. Assumes nothing.
use Rattle.std.specs.Prelude.{Ok}
use Rattle.std.proofs.lemmas.Result.{err_from_is_err_and}
use mathlib.Core.Path.{◌≡◌, sym, ◌∙◌}
use Rattle.line.specs.Table.{first}
use Rattle.table.specs.Entries.{entries_of}
use Rattle.reading_log.proofs.Calls.{bad_log_lem}
use Rattle.receive.specs.Reading.{read_refusals}
use Rattle.logging.proofs.Refusals.{keep_read, keep_goes, keep_bad}
use Rattle.logging.proofs.check_keep.Goals as goal
use Rattle.logging.proofs.check_keep.Goals.{In_ok-check_read}

-- a reading there is not refused
fine : (c : In_ok-check_read)
    → let a = c.args in
    first (read_refusals a.s a.job (entries_of a.table.now) a.octets.now a.marks.now a.place) ≡ Ok tt
fine c = sym c.check_read.ensures ∙ c.in_ok-check_read.was

pub returns-in_err-check_read : goal.returns-in_err-check_read
returns-in_err-check_read c =
    let p = err_from_is_err_and c.from_residual.result c.from_residual.ensures.1 in
    rw (p.1, p.2) (sym (keep_read _ _ _ _ _ _ _ _ (sym c.check_read.ensures ∙ c.in_err-check_read.was)))

pub returns-then-log-ne0 : goal.returns-then-log-ne0
returns-then-log-ne0 c = sym (keep_bad _ _ _ _ _ _ _ (fine (goal.at.returns-then-log-ne0 c).In_ok-check_read) (bad_log_lem _ c.if-log-ne0.true))

pub returns : goal.returns
returns c = sym (keep_goes _ _ _ _ _ _ _ c.if-log-ne0.false (fine (goal.at.returns c).In_ok-check_read))
