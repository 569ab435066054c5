-- What was printed lies inside the buffer, and each part inside all that is printed, so the next begins there; the writer got the parts, one after the
-- other, and behind the last all of them.
use Rattle.std.proofs.Common.{sym, refl, arith, take, length-take, length-take-le}
use Rattle.std.proofs.KnownBytes.{Appends-nil}
use Rattle.printing.proofs.Puts.{front-inside}
use Rattle.printing.proofs.Shows.{part-inside}
use Rattle.printing.proofs.Runs.{writes_more, last_ends, writes_all}
use Rattle.printing.proofs.run_into.Goals as goal

pub slice_bounds-out-end : goal.slice_bounds-out-end
slice_bounds-out-end g c = let p = c.print-k.ensures in front-inside _ _ _ _ p.value p.out_after

pub slice_bounds-write_all-end : goal.slice_bounds-write_all-end
slice_bounds-write_all-end g c = let p = c.print-k.ensures in sym (length-take-le _ _ (front-inside _ _ _ _ p.value p.out_after))

pub overflow_add-from : goal.overflow_add-from
overflow_add-from g c =
    let p = c.print-k.ensures in
    let h = part-inside 131072 c.loop-k.from g.P.Output.most c.print-k.result _ p.value p.input_len_bound c.loop-k.invariant.inside in
    omega (arith, g.met.P.Output.bounded.1)

pub loop-k-smaller : goal.loop-k-smaller
loop-k-smaller g c =
    let p = c.print-k.ensures in
    let h = part-inside 131072 c.loop-k.from g.P.Output.most c.print-k.result _ p.value p.input_len_bound c.loop-k.invariant.inside in
    omega arith

pub loop-k-init : goal.loop-k-init
loop-k-init g c = record { inside = omega arith; front = Appends-nil _; last = λ short. absurd (short refl) }

pub loop-k-preserved : goal.loop-k-preserved
loop-k-preserved g c =
    let p = c.print-k.ensures in
    let h = c.loop-k.invariant in
    record {
      inside = part-inside 131072 c.loop-k.from g.P.Output.most c.print-k.result _ p.value p.input_len_bound h.inside;
      front = writes_more _ _ _ 131072 c.loop-k.from c.print-k.result _ c.loop-k.out c.print-k.new.out p.value p.out_after h.front c.in_ok-write_all.ensures.bytes;
      last = last_ends 131072 c.loop-k.from c.print-k.result _ p.value;
    }

pub returns : goal.returns
returns g c =
    let read = c.in_ok-n.ensures in
    let h = c.loop-k.invariant in
    let n = length-take c.in_ok-n.n c.read_full.new.room in
    record {
      input = take c.in_ok-n.n c.read_full.new.room;
      few = omega arith;
      taken = read.octets;
      ended = λ short. read.end (omega arith);
      written = writes_all _ _ c.loop-k.from _ h.front (h.last c.loop-k-test.false);
    }
