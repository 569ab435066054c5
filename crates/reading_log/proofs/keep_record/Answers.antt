-- `log::keep_record` meets its contract: the octets of a record that is read are those that are written again. Assumes nothing.
use Prim.Native.Nat.{◌*◌}
use mathlib.Core.Path.{◌≡◌, sym, ap, ◌∙◌}
use borrow.Author.Rules.{rules}
use Rattle.line.specs.Limits.{record_size}
use Rattle.line.specs.Line.{overwrite}
use Rattle.reading_log.specs.Log.{octets_of_record, record_of, slot_at}
use Rattle.reading_log.proofs.Searches.{slot_used, slot_unused, slot_again, part_slot}
use Rattle.reading_log.proofs.Kept.{moved_used, moved_unused, moved_nowhere}
use Rattle.reading_log.proofs.keep_record.Goals as goal

pub returns-then-log-from-eq0 : goal.returns-then-log-from-eq0
returns-then-log-from-eq0 c = let m = moved_unused _ _ _ (slot_unused _ _ c.if-log-from-eq0.true) in (sym m.0, sym m.1)

pub returns-then-j-k : goal.returns-then-j-k
returns-then-j-k c = let m = moved_nowhere _ _ _ (slot_used _ _ c.if-log-from-eq0.false) c.if-j-k.true c.requires.1 in (sym m.0, sym m.1)

pub returns : goal.returns
returns c =
    let l = c.args.log.now in
    let k = c.args.k in
    let j = c.args.j in
    let m = moved_used l k j (slot_used l k c.if-log-from-eq0.false) in
    let o : octets_of_record c.record_of-r.result ≡ slot_at l k
    = ap octets_of_record (c.record_of-r.ensures ∙ ap record_of (part_slot l k)) ∙ slot_again l k (λ i. search rules) c.requires.1 in
    (c.write_record.ensures ∙ ap (overwrite l (record_size * j)) o ∙ sym m.0, sym m.1)
