-- How many symbols each kind of frame takes. The lengths of an address and of the quanta are those of the code's arrays. Assumes nothing.
use Prim.Native.Nat.{ℕ, ◌+◌, ◌-◌, ◌*◌, ◌/◌}
use native.Mathlib.Omega.{arith}
use mathlib.Core.Path.{◌≡◌, refl, sym, ◌∙◌}
use mathlib.Core.List.{List, [], ◌∷◌, map}
use lib.ListN.{length, length-append, length-replicate, length-map}
use Rattle.line.specs.Limits.{tag_size, least_data, least_body}
use Rattle.line.specs.Line.{as_control, idle, preamble}
use Rattle.line.specs.Octets.{high_first}
use Rattle.fcs.proofs.Laws.{fcs-four}
use Rattle.station.specs.declared.Settings.{Settings}
use Rattle.station.specs.declared.Quanta.{Quanta}
use Rattle.control.specs.Control.{reserved_group}
use Rattle.writing.specs.declared.Client.{Client}
use Rattle.writing.specs.declared.Classes.{Classes}
use Rattle.writing.specs.Frames.{tags_sent, padded, client_body, gap, on_line, pause_body, class_quanta, pfc_body, idle_symbols}
use Rattle.writing.proofs.TagLaws.{tag_length}

-- what owning a struct tells of its array of structs: the array's length stands there at the list of their parts
pub length_mapped : (X Y : Type 0) (f : X → Y) (l : List X) (n : ℕ) → length (map f l) ≡ n → length l ≡ n
length_mapped X Y f l n e = sym (length-map l f) ∙ e

pub two : (n : ℕ) → length (high_first n) ≡ 2
unfolding high_first
two n = refl

pub group-six : length reserved_group ≡ 6
unfolding reserved_group
group-six = refl

-- what a frame's octets up to the FCS take, and what the line adds: Start, preamble, FCS and gap
pub line_size : (idles : ℕ) (body : List ℕ) → length (on_line idles body) ≡ 13 + idles + length body
unfolding on_line gap preamble
line_size idles body = simp (length-append, length-map, length-replicate, fcs-four) (omega arith)

pub padded_size : (d : List ℕ) → length (padded d) ≡ length d + (least_data - length d)
unfolding padded
padded_size d = simp (length-append, length-replicate)

pub client-body_size : (s : Settings) (c : Client) (d : List ℕ) → length c.dest.0 ≡ 6 → length s.own.0 ≡ 6
    → length (client_body s c d) ≡ 14 + tag_size * length (tags_sent c) + (length d + (least_data - length d))
unfolding client_body
client-body_size s c d dest own = simp (length-append, two, tag_length, padded_size) (omega arith)

pub pause-body_size : (s : Settings) (q : Quanta) → length s.own.0 ≡ 6 → length (pause_body s q) ≡ least_body
unfolding pause_body
pause-body_size s q own = simp (length-append, two, group-six, length-replicate) (omega arith)

pub quanta_size : (named : ℕ) (qs : List Quanta) → length (class_quanta named qs) ≡ 2 * length qs
unfolding class_quanta
quanta_size named [] = refl
quanta_size named (q ∷ qs) = simp (length-append, two, quanta_size (named / 2) qs) (omega arith)

pub pfc-body_size : (s : Settings) (k : Classes) → length s.own.0 ≡ 6 → length k.quanta ≡ 8 → length (pfc_body s k) ≡ least_body
unfolding pfc_body
pfc-body_size s k own eight = simp (length-append, two, group-six, quanta_size, length-replicate) (omega arith)

pub idle_size : (n : ℕ) → length (idle_symbols n) ≡ n
unfolding idle_symbols
idle_size n = length-replicate n (as_control idle)
