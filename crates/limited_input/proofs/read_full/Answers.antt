-- A read stands behind what was read before it: the front of the room grows by what the reader lost.
use Rattle.std.proofs.Common.{◌≡◌, ℕ, ◌+◌, ◌≤◌, List, ◌++◌, length, take, arith}
use Rattle.std.proofs.lemmas.Grind.{common_steps}
use Rattle.std.proofs.Math.Seq.{take-append-add}
use Rattle.std.proofs.KnownBytes.{Consumes-trans}
use Rattle.limited_input.proofs.read_full.Goals as goal

front-grows : (done n : ℕ) (room part rest : List ℕ) → done ≤ length room → n ≤ length part
    → take (done + n) (take done room ++ (part ++ rest)) ≡ take done room ++ take n part
front-grows done n room part rest h k = grind (arith, common_steps, take-append-add)

pub loop-done-preserved : goal.loop-done-preserved
loop-done-preserved g c = record {
  within = omega (arith, c.in_ok-n.ensures.bound.0);
  front = rw (front-grows c.loop-done.done c.in_ok-n.n c.loop-done.room c.read.new.buf _ c.loop-done.invariant.within c.in_ok-n.ensures.bound.0)
      (Consumes-trans _ _ _ _ _ c.loop-done.invariant.front (c.in_ok-n.ensures.bytes.0));
}
