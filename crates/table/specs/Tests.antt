-- Document 02, item 10: what is tested of a job and of a table before any reading and in every table call: refusals 14 and 20.
use Rattle.std.specs.Prelude.{ℕ, Bool, false, ◌||◌, List, [], ◌∷◌, ltb, None, Option, Some}
use Rattle.line.specs.Limits.{most_held}
use Rattle.station.specs.declared.Address.{Address}
use Rattle.table.specs.declared.Entry.{Entry}
use Rattle.table.specs.Entries.{mine, held, among}

-- 14: "job above 1"
unfoldable pub bad_job : ℕ → Bool
bad_job job = ltb 1 job

-- whether an address of the job stands among those behind it too
unfoldable pub again : Option Address → List (Option Address) → Bool
again None ms = false
again (Some a) ms = among a.0 ms

-- "has an address twice"
unfoldable pub twice : List (Option Address) → Bool
twice [] = false
twice (m ∷ ms) = again m ms || twice ms

-- "a job holds above 12 or has an address twice"
unfoldable pub overfull : List (Option Address) → Bool
overfull ms = ltb most_held (held ms) || twice ms

-- 20: "a table where" either job does
unfoldable pub bad_table : List Entry → Bool
bad_table es = overfull (mine 0 es) || overfull (mine 1 es)
