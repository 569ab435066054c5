-- Internal: what the writers promise one another: the pieces in which a frame is written, and that symbols were written over both buffers.
use Rattle.std.specs.Prelude.{ℕ, ◌+◌, ◌-◌, ◌≡◌, List, [], ◌∷◌, ◌++◌, length, replicate}
use Rattle.line.specs.Limits.{lead_size}
use Rattle.line.specs.Line.{Symbol, octets_of, marks_of, overwrite, start, terminate, idle, preamble}
use Rattle.line.specs.Octets.{high_first, between}
use Rattle.station.specs.declared.Address.{Address}
use Rattle.fcs.specs.Fcs.{fcs}
use Rattle.control.specs.Control.{reserved_group}

-- Start and the preamble
unfoldable pub lead : List ℕ
lead = start ∷ preamble

-- what stands before tags and field, and before what a control frame says: associated as it is written
unfoldable pub head_of : List ℕ → Address → List ℕ
head_of dest own = (lead ++ dest) ++ own.0

unfoldable pub control_of : Address → ℕ → List ℕ
control_of own opcode = (head_of reserved_group own ++ high_first 0x8808) ++ high_first opcode

-- the octets of the gap
unfoldable pub gap_octets : ℕ → List ℕ
gap_octets idles = (terminate ∷ []) ++ replicate idles idle

-- what is written after the octets `os` up to place `at`: the FCS of all but Start and the preamble, and the gap
unfoldable pub end_of : ℕ → List ℕ → ℕ → List ℕ
end_of idles os at = fcs (between os lead_size at) ++ gap_octets idles

-- the marks of a frame of n symbols: Start is control, then all is data but the gap
unfoldable pub frame_marks : ℕ → ℕ → List ℕ
frame_marks idles n = ((1 ∷ []) ++ replicate (n - (idles + 2)) 0) ++ replicate (idles + 1) 1

-- the symbols `new` were written over the buffers `os` and `ms` from `at` on: the next place, and what both hold now
pub record Laid (os ms : List ℕ) (at : ℕ) (new : List Symbol) (next : ℕ) (os' ms' : List ℕ) : Type 0 where
  pub goes : next ≡ at + length new
  pub octets : os' ≡ overwrite os at (octets_of new)
  pub marks : ms' ≡ overwrite ms at (marks_of new)
