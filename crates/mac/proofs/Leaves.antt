-- The symbols that claim 7 counts are those that the very call leaves in its buffers, from its place on, and its place rises by their number: `call_leaves`.
-- Assumes nothing.
use Rattle.std.specs.Prelude.{Err, Ok}
use Rattle.station.specs.Numbers.{Checked}
use Prim.Native.Nat.{ℕ}
use native.Mathlib.Omega.{arith}
use mathlib.Core.Path.{◌≡◌, refl, sym, subst}
use mathlib.Core.List.{List}
use Rattle.line.specs.Line.{Symbol, octets_of, marks_of}
use Rattle.line.proofs.Overwrite.{overwrite-none}
use Rattle.station.specs.declared.State.{State}
use Rattle.send.specs.Sending.{SendCall, written, send_checked}
use Rattle.counting.specs.Claims.{place_of, sending_of, counting_of}
use Rattle.counting.proofs.Claims.{sent-by, counted-sent}
use Rattle.mac.specs.Calls.{Call, reads, walks, keeps, takes, sends, counts, writes, Leaves, CallLeaves}

leaves : (r : Checked) (st : State) (os ms : List ℕ) (p : ℕ) (new : List Symbol) (count : ℕ)
    → Leaves os ms p (written r new) (send_checked r st os ms p new count)
unfolding send_checked written octets_of marks_of
leaves (Err x) st os ms p new count = record { octets = sym (overwrite-none os p); marks = sym (overwrite-none ms p); at = omega arith }
leaves (Ok _) st os ms p new count = record { octets = refl; marks = refl; at = refl }

leaves_by : (r : Checked) (st : State) (os ms : List ℕ) (p : ℕ) (new : List Symbol) (count : ℕ) (x : SendCall) → x ≡ send_checked r st os ms p new count
    → Leaves os ms p (written r new) x
leaves_by r st os ms p new count x e = subst (Leaves os ms p (written r new)) (sym e) (leaves r st os ms p new count)

pub call_leaves : (st : State) (c : Call) → CallLeaves st c
unfolding CallLeaves writes
call_leaves st (reads s job es os ms p) = refl
call_leaves st (walks s job es os ms) = refl
call_leaves st (keeps s job es os ms p l) = refl
call_leaves st (takes s job es at running run x) = refl
call_leaves st (sends os ms c) = leaves_by _ st os ms (place_of c) _ _ (sending_of st os ms c) (sent-by st os ms c)
call_leaves st (counts l c) = leaves_by _ st l.octets l.marks (place_of c) _ _ (counting_of st l c).sent (counted-sent st l c)
