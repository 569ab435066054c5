-- Document 01, "Sending": frames as line symbols.
use Rattle.std.specs.Prelude.{ℕ, ◌-◌, ◌/◌, ◌%◌, cond, List, [], ◌∷◌, ◌++◌, map, length, take, replicate, eqb}
use Rattle.line.specs.Limits.{least_data}
use Rattle.line.specs.Line.{Symbol, as_data, as_control, idle, start, terminate, preamble}
use Rattle.line.specs.Octets.{high_first}
use Rattle.fcs.specs.Fcs.{fcs}
use Rattle.station.specs.declared.Settings.{Settings}
use Rattle.station.specs.declared.Quanta.{Quanta}
use Rattle.control.specs.Control.{reserved_group}
use Rattle.writing.specs.declared.Client.{Client}
use Rattle.writing.specs.declared.Classes.{Classes}
use Rattle.writing.specs.declared.Kind.{Kind}
use Rattle.writing.specs.declared.Kind.TheVariants.{Customer, Service}
use Rattle.writing.specs.declared.Tag.{Tag}
use Rattle.writing.specs.declared.Form.{Form}
use Rattle.writing.specs.declared.Form.TheVariants.{ByLength, ByType}

-- ---- A client frame

-- "Field 0x8100 means tagged"; document 02, item 1: "a 0x88A8 tag outside a 0x8100 one"
abbrev pub kind_field : Kind → ℕ
kind_field Customer = 0x8100
kind_field Service = 0x88A8

-- item 1: "Sending takes up to eight tags with their kinds": those of the array that count
unfoldable pub tags_sent : Client → List Tag
tags_sent c = take c.count c.tags

-- each tag's kind and its tag control: "a run that is one tag followed by a shorter run"
unfoldable pub tag_octets : List Tag → List ℕ
tag_octets [] = []
tag_octets (t ∷ ts) = high_first (kind_field t.kind) ++ (high_first t.control ++ tag_octets ts)

-- "In the length form the field is the data's length."
unfoldable pub field_sent : Form → List ℕ → ℕ
field_sent ByLength d = length d
field_sent (ByType t) d = t

-- "Data under 46 octets is padded with zeros to 46, tagged or not."
unfoldable pub padded : List ℕ → List ℕ
padded d = d ++ replicate (least_data - length d) 0

-- "names a destination, … a form … and data. Source is the own address.", with its tags before the field: what the FCS covers
unfoldable pub client_body : Settings → Client → List ℕ → List ℕ
client_body s c d = c.dest.0 ++ (s.own.0 ++ (tag_octets (tags_sent c) ++ (high_first (field_sent c.form d) ++ padded d)))

-- "one Terminate and eleven Idles": the gap, of a number of Idles, since on the port of document 02, item 5, it varies by the place and the deficit
-- count (`gap_at`, specs/Gaps). A plain port has `plain_idles`
unfoldable pub gap : ℕ → List Symbol
gap idles = as_control terminate ∷ replicate idles (as_control idle)

-- The line: "Start; six data octets 0x55; data 0xD5 …; the frame from destination to FCS; Terminate; Idle", with a gap of so many Idles, of what the
-- FCS covers
unfoldable pub on_line : ℕ → List ℕ → List Symbol
on_line idles body = as_control start ∷ (map as_data (preamble ++ (body ++ fcs body)) ++ gap idles)

unfoldable pub client_symbols : ℕ → Settings → Client → List ℕ → List Symbol
client_symbols idles s c d = on_line idles (client_body s c d)

-- ---- Pause, PFC and Idle fill

-- "A pause frame: reserved group, own address, 0x8808, 0x0001, quanta, 42 zeros."
unfoldable pub pause_body : Settings → Quanta → List ℕ
pause_body s q = reserved_group ++ (s.own.0 ++ (high_first 0x8808 ++ (high_first 0x0001 ++ (high_first q.0 ++ replicate 42 0))))

-- "eight quanta (zero for a class not named)": the lowest bit of `named` names the class of the first quanta left
unfoldable pub class_quanta : ℕ → List Quanta → List ℕ
class_quanta named [] = []
class_quanta named (q ∷ qs) = high_first (cond (eqb (named % 2) 1) q.0 0) ++ class_quanta (named / 2) qs

-- "A PFC frame: 0x0101, zero, class octet, eight quanta …, 26 zeros."
unfoldable pub pfc_body : Settings → Classes → List ℕ
pfc_body s k =
    reserved_group
    ++ (s.own.0
    ++ (high_first 0x8808 ++ (high_first 0x0101 ++ (0 ∷ k.named ∷ (class_quanta k.named k.quanta ++ replicate 26 0)))))

-- "Both get preamble, FCS and gap like others"
unfoldable pub pause_symbols : ℕ → Settings → Quanta → List Symbol
pause_symbols idles s q = on_line idles (pause_body s q)

unfoldable pub pfc_symbols : ℕ → Settings → Classes → List Symbol
pfc_symbols idles s k = on_line idles (pfc_body s k)

-- "Idle fill writes a stated number of Idles."
unfoldable pub idle_symbols : ℕ → List Symbol
idle_symbols n = replicate n (as_control idle)
