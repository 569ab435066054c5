-- `log::append` meets its contract: each way out is one of the four laws of `appending`. Assumes nothing.
use Prim.Native.Nat.{ℕ, ◌*◌, ◌/◌, ◌<◌}
use native.Mathlib.Omega.{arith}
use mathlib.Core.Path.{◌≡◌, sym, ap, ◌∙◌}
use mathlib.Core.List.{List}
use lib.ListN.{length}
use Rattle.std.specs.Prelude.{Ok, Err}
use Rattle.line.specs.Limits.{record_size}
use Rattle.line.specs.Line.{overwrite}
use Rattle.reading_log.specs.declared.LogRefusal.TheVariants.{LogFull}
use Rattle.reading_log.specs.Log.{octets_of_record, extent, roomy, logging}
use Rattle.reading_log.specs.Claims.{IsMultiple}
use Rattle.reading_log.proofs.Records.{counts-not, counts_so}
use Rattle.reading_log.proofs.Calls.{bad_log_lem, left_bad, good_log, append_bad, append-none, append-full}
use Rattle.reading_log.proofs.Filled.{length-roomy, room-full, room-left, append-roomy}
use Rattle.reading_log.proofs.append.Goals as goal

-- m is the log with room, which has as many records as before, and k the first one behind the last used one
module _ (l m : List ℕ) (k : ℕ) (good : IsMultiple l) (room : m ≡ roomy l) (last : k ≡ extent (roomy l)) where
  same_count : length m / record_size ≡ length l / record_size
  same_count = ap (λ (x : List ℕ). length x / record_size) room ∙ ap (λ (n : ℕ). n / record_size) (length-roomy l good)

  below : (k ≡ length m / record_size → ⊥) → k < length l / record_size
  below h = room-left l good k last (λ q. h (q ∙ sym same_count))

pub returns-in_err-checked : goal.returns-in_err-checked
returns-in_err-checked c =
    rw (left_bad _ _ c.from_residual.ensures.1 c.in_err-checked.ensures.0) (sym (append_bad _ _ (bad_log_lem _ c.in_err-checked.ensures.1)))

pub returns-then-r-eq0 : goal.returns-then-r-eq0
returns-then-r-eq0 c = sym (append-none _ _ (good_log _ c.in_ok-checked.ensures) (counts-not _ c.if-r-eq0.true))

pub returns-then-k-count : goal.returns-then-k-count
returns-then-k-count c =
    let g = c.in_ok-checked.ensures in
    let e = same_count _ _ _ g c.room-k.ensures.0 c.room-k.ensures.1 in
    let f = room-full _ g (sym c.room-k.ensures.1 ∙ c.if-k-count.true ∙ e) in
    ap (logging (Err LogFull)) (c.room-k.ensures.0 ∙ f.0) ∙ sym (append-full _ _ (good_log _ g) (counts_so _ c.if-r-eq0.false) f.1)

pub write_record-requires : goal.write_record-requires
write_record-requires c =
    let e = same_count _ _ _ c.in_ok-checked.ensures c.room-k.ensures.0 c.room-k.ensures.1 in
    let h = below _ _ _ c.in_ok-checked.ensures c.room-k.ensures.0 c.room-k.ensures.1 c.if-k-count.false in
    omega arith

pub returns : goal.returns
returns c =
    let g = c.in_ok-checked.ensures in
    let k = c.room-k.result in
    ap (logging (Ok tt)) c.write_record.ensures
    ∙ ap (λ (m : List ℕ). logging (Ok tt) (overwrite m (record_size * k) (octets_of_record c.args.r))) c.room-k.ensures.0
    ∙ sym (append-roomy _ g _ c.if-r-eq0.false k c.room-k.ensures.1 (below _ _ _ g c.room-k.ensures.0 c.room-k.ensures.1 c.if-k-count.false))
