-- The calls behind what `why` prints are the walk's readings: a line for each Start that is counted, and the last line of the printing program.
-- Assumes nothing.
use Prim.Native.Nat.{ℕ, zero, suc, ◌+◌}
use mathlib.Core.Path.{◌≡◌}
use mathlib.Core.Bool.{Bool, true, false, false≢true, true≢false}
use mathlib.Core.List.{List, []}
use lib.ListN.{length}
use Rattle.station.specs.declared.Settings.{Settings}
use Rattle.station.specs.declared.State.{State}
use Rattle.table.specs.declared.Entry.{Entry}
use Rattle.receive.specs.declared.Reading.{Reading}
use Rattle.receive.specs.Reading.{reading}
use Rattle.receive.specs.Walk.{readings_from, walk}
use Rattle.reason.specs.declared.Explained.{Explained}
use Rattle.reason.proofs.Claims.{explain_reads}
use Rattle.why_lines.specs.Whys.{explained_from}
use Rattle.why_lines.specs.Claims.{AllSame}

more_same : (b c : Bool) (es : List Explained) (rs : List Reading) → b ≡ c → AllSame es rs
    → AllSame (elim b [ true ↦ es | false ↦ [] ]) (elim c [ true ↦ rs | false ↦ [] ])
unfolding AllSame
more_same true true es rs h w = w
more_same true false es rs h w = absurd (true≢false h)
more_same false true es rs h w = absurd (false≢true h)
more_same false false es rs h w = tt

all_same : (left : ℕ) (s : Settings) (job : ℕ) (table : List Entry) (st : State) (os ms : List ℕ) (p : ℕ) → AllSame (explained_from left s job table os ms p) (readings_from left s job table st os ms p)
unfolding AllSame explained_from readings_from
all_same zero s job table st os ms p = tt
all_same (suc left) s job table st os ms p =
    let same = explain_reads s job table st os ms p in
    let r = reading s job table st os ms p in
    (same, more_same _ _ _ _ same.given (rw same.next (all_same left s job table r.state os ms r.next)))

pub whys_walk : (s : Settings) (job : ℕ) (table : List Entry) (st : State) (os ms : List ℕ) → AllSame (explained_from (length os + 1) s job table os ms 0) (walk s job table st os ms)
unfolding walk
whys_walk s job table st os ms = all_same (length os + 1) s job table st os ms 0
