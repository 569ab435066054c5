-- `split` meets its contract: with the records left, each buffer is whole. Assumes nothing.
use Prim.Native.Nat.{ℕ, ◌+◌, ◌*◌, ◌/◌, ◌≤◌, ◌<◌}
use native.Mathlib.Omega.{arith}
use mathlib.Core.Path.{◌≡◌, refl, ap, ◌∙◌}
use mathlib.Core.List.{◌∷◌}
use lib.ListN.{length, get_or, drop}
use Rattle.printing.specs.Lines.{record_octets, record_marks}
use Rattle.printing.proofs.Puts.{rest-start, rest-one, rest_done}
use Rattle.printing.proofs.Records.{octets_more, marks_more, octets-end, marks-end}
use Rattle.printing.proofs.split.Goals as goal

pub loop-k-init : goal.loop-k-init
loop-k-init c = (rest-start refl, rest-start refl)

pub loop-k-preserved : goal.loop-k-preserved
loop-k-preserved c =
    let input = c.args.input.now in
    let k = c.loop-k.k in
    let h : 2 * k + 1 < length input = omega arith in
    let next : 2 * k + 2 ≡ 2 * (k + 1) = omega arith in (
      rest-one c.loop-k.invariant.0 (octets_more input (2 * k) h ∙ ap (λ (j : ℕ). get_or input (2 * k + 1) 0 ∷ record_octets (drop j input)) next),
      rest-one c.loop-k.invariant.1 (marks_more input (2 * k) h ∙ ap (λ (j : ℕ). get_or input (2 * k) 0 ∷ record_marks (drop j input)) next),
    )

pub returns : goal.returns
returns c =
    let input = c.args.input.now in
    let k = c.loop-k.k in
    let e : k ≡ length input / 2 = omega arith in
    let last : length input ≤ 2 * k + 1 = omega arith in
    record { put = rw e at (rest_done c.loop-k.invariant.0 (octets-end input (2 * k) last)); put_2 = rw e at (rest_done c.loop-k.invariant.1 (marks-end input (2 * k) last)) }
