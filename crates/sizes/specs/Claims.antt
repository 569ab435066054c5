-- What the claims of document 02, item 13, speak of. The theorems are proofs/Claims.antt, and mac/proofs/SizesRise.antt for the counters.
use Rattle.std.specs.Prelude.{ℕ, ◌+◌, List, [], ◌∷◌}
use Rattle.station.specs.declared.Settings.{Settings}
use Rattle.station.specs.declared.Outcome.TheVariants.{PauseTaken, PfcTaken, ControlDropped, HandedOut}
use Rattle.station.specs.Station.{counter}
use Rattle.table.specs.declared.Entry.{Entry}
use Rattle.sizes.specs.declared.SizeTable.{SizeTable}
use Rattle.sizes.specs.declared.Added.{Added}
use Rattle.sizes.specs.Sizes.{adding}

-- a capture, with the settings, the job and the address table it is read with
pub record Capture : Type 0 where
  pub settings : Settings
  pub job : ℕ
  pub table : List Entry
  pub octets : List ℕ
  pub marks : List ℕ

abbrev pub add_one : SizeTable → Capture → Added
add_one t c = adding t c.settings c.job c.table c.octets c.marks

-- "Add up, over any number of captures"
unfoldable pub add_all : SizeTable → List Capture → SizeTable
add_all t [] = t
add_all t (c ∷ cs) = add_all (add_one t c).sizes cs

-- "captures in another order"
pub data Reordered : List Capture → List Capture → Type 0 where
  same : {cs : List Capture} → Reordered cs cs
  next : {c : Capture} {cs ds : List Capture} → Reordered cs ds → Reordered (c ∷ cs) (c ∷ ds)
  swap : {b c : Capture} {cs : List Capture} → Reordered (b ∷ c ∷ cs) (c ∷ b ∷ cs)
  then : {bs cs ds : List Capture} → Reordered bs cs → Reordered cs ds → Reordered bs ds

-- "those four counters" together
unfoldable pub four_counters : List ℕ → ℕ
four_counters cs = counter PauseTaken cs + counter PfcTaken cs + counter ControlDropped cs + counter HandedOut cs
