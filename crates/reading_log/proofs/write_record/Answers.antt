-- `log::write_record` meets its contract: five writes, by `◌⨾◌`, are the octets of the record over the log. Assumes nothing.
use native.Mathlib.Omega.{arith}
use Rattle.splice.proofs.Laws.{◌⨾◌, put-overwrite}
use Rattle.reading_log.specs.Log.{octets_of_record}
use Rattle.reading_log.proofs.Records.{length_record}
use Rattle.reading_log.proofs.write_record.Goals as goal

pub returns : goal.returns
unfolding octets_of_record
returns c =
    let p = c.put_low-a.ensures.holds ⨾ c.put_low-b.ensures.holds ⨾ c.put_low-c.ensures.holds ⨾ c.put_low-d.ensures.holds ⨾ c.put_low.ensures.holds in
    let q = rw (c.from.ensures, c.from-2.ensures, c.from-3.ensures, c.from-4.ensures) at p in
    put-overwrite q (omega (arith, length_record c.args.r, c.requires))
