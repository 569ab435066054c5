-- Document 02, item 5, "The four-lane port": how long the gap behind a frame is, and the deficit count after it.
use Rattle.std.specs.Prelude.{ℕ, ◌+◌, ◌-◌, ◌%◌, ◌≤◌, ◌≡◌, cond, List, length, leb}
use Rattle.line.specs.Limits.{plain_idles, around_body, full_gap, most_deficit, lanes}
use Rattle.line.specs.Line.{Symbol}
use Rattle.station.specs.declared.Port.{Port}
use Rattle.station.specs.declared.Port.TheVariants.{Plain, FourLane}
use Rattle.writing.specs.declared.Gap.{Gap}
use Rattle.writing.specs.Frames.{on_line}

-- "If a gap of 12 would end r past a multiple of four": r of a gap that begins at place `at`
abbrev pub past : ℕ → ℕ
past at = (at + full_gap) % lanes

-- "shorten by r … and add r to the count"
abbrev pub shortened : ℕ → ℕ → Gap
shortened r count = record { size = full_gap - r; count = count + r }

-- "lengthen by 4 - r and take 4 - r off the count"
abbrev pub lengthened : ℕ → ℕ → Gap
lengthened r count = record { size = full_gap + (lanes - r); count = count - (lanes - r) }

-- the gap from place `at` on, "Terminate included", and the deficit count after it: "shorten … when count plus r is at most 3 …; else lengthen". Of the
-- count "only frames sent on this port change it"; on a plain port a gap is "one Terminate and eleven Idles"
unfoldable pub gap_at : Port → ℕ → ℕ → Gap
gap_at Plain at count = record { size = 1 + plain_idles; count = count }
gap_at FourLane at count = cond (leb (count + past at) most_deficit) (shortened (past at) count) (lengthened (past at) count)

-- the gap behind a frame that begins at a place, of what its FCS covers: it begins behind Start and preamble, 8 symbols, that, and the FCS, 4
unfoldable pub gap_on : Port → ℕ → ℕ → List ℕ → Gap
gap_on port count place body = gap_at port (place + around_body + length body) count

-- the symbols of the frame, with that gap
unfoldable pub symbols_on : Port → ℕ → ℕ → List ℕ → List Symbol
symbols_on port count place body = on_line ((gap_on port count place body).size - 1) body

-- what a gap of this port, from place `at` on and with this count before it, comes to: "the count is exactly what is missing"; a count of 0 to 3 stays
-- one; 9 to 15 symbols; it ends at a multiple of four
pub record Gapped (at count : ℕ) (g : Gap) : Type 0 where
  pub missing : g.size + g.count ≡ full_gap + count
  pub small : count ≤ most_deficit → g.count ≤ most_deficit
  pub least : full_gap - most_deficit ≤ g.size
  pub most : count ≤ most_deficit → g.size ≤ full_gap + most_deficit
  pub lands : (at + g.size) % lanes ≡ 0
