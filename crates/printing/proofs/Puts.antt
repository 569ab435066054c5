-- More laws of `Put`: for a writer that has a rest still to write, and of what stands at the front. Assumes nothing.
use Prim.Native.Nat.{ℕ, suc, ◌+◌, ◌≤◌}
use mathlib.Core.Path.{◌≡◌, sym, ap, ap₂, ◌∙◌}
use mathlib.Core.List.{List, [], ◌∷◌}
use native.Mathlib.Numerals.{add-one}
use native.Mathlib.Omega.{arith}
use lib.ListN.{length, take, drop, set, length-append}
use lib.Seq.{sets, take-append_seam}
use Rattle.line.specs.Line.{overwrite}
use Rattle.splice.specs.Written.{Put}
use Rattle.splice.proofs.Laws.{put-overwrite}

-- what was written, said by an equal list
pub put_as : {l m a b : List ℕ} {i j : ℕ} → a ≡ b → Put l i a j m → Put l i b j m
put_as e p = rw (← e) p

-- ---- a writer that has `rest` still to write, from `at` on, so that `old` holds `whole` from its start on

pub record Rest (old whole : List ℕ) (held : List ℕ) (at : ℕ) (rest : List ℕ) : Type 0 where
  pub goes : at + length rest ≡ length whole
  pub holds : sets held at rest ≡ sets old 0 whole

-- nothing is written yet
pub rest-start : {old whole rest : List ℕ} → rest ≡ whole → Rest old whole old 0 rest
rest-start {old} {whole} {rest} e =
    let n = ap length e in
    record { goes = omega arith; holds = ap (sets old 0) e }

-- one octet more
pub rest-one : {old whole held rest rest' : List ℕ} {at x : ℕ} → Rest old whole held at rest → rest ≡ x ∷ rest' → Rest old whole (set held at x) (at + 1) rest'
rest-one {old} {whole} {held} {rest} {rest'} {at} {x} p e =
    let n : length rest ≡ suc (length rest') = ap length e in
    record {
      goes = omega (arith, p.goes);
      holds = ap (λ (k : ℕ). sets (set held at x) k rest') (add-one at) ∙ ap (sets held at) (sym e) ∙ p.holds;
    }

-- nothing is left
pub rest_done : {old whole held rest : List ℕ} {at : ℕ} → Rest old whole held at rest → rest ≡ [] → Put old 0 whole at held
rest_done {old} {whole} {held} {rest} {at} p e =
    let n : length rest ≡ 0 = ap length e in
    record {
      goes = omega (arith, p.goes);
      holds = ap (sets held at) (sym e) ∙ p.holds;
    }

-- the reader's form, of what was written from the start on
pub put_whole : {old new held : List ℕ} {next : ℕ} → Put old 0 new next held → next ≤ length old → (next ≡ length new) × (held ≡ overwrite old 0 new)
put_whole {old} {new} {held} {next} p h = (omega (arith, p.goes), put-overwrite p (omega (arith, p.goes)))

-- so it is the front
pub front_written : (old new held : List ℕ) (n : ℕ) → n ≡ length new → held ≡ overwrite old 0 new → take n held ≡ new
unfolding overwrite
front_written old new held n e h = ap₂ take e h ∙ take-append_seam new (drop (0 + length new) old)

pub put_front : {old new held : List ℕ} {next : ℕ} → Put old 0 new next held → next ≤ length old → take next held ≡ new
put_front {old} {new} {held} {next} p h = let w = put_whole p h in front_written old new held next w.0 w.1

-- and lies inside: a caller that takes as many octets from the front has them
pub front-inside : (old new held : List ℕ) (n : ℕ) → n ≡ length new → held ≡ overwrite old 0 new → n ≤ length held
unfolding overwrite
front-inside old new held n e h = rw (h, length-append) (omega arith)
