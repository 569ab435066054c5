-- Document 01, "Control frames": rules 7 to 10, and document 02, items 7 and 10: which address let a frame in. `f` is a whole frame, from destination to
-- FCS; `own` is what a job has of the address table, at each entry its address or nothing (`mine`).
use Rattle.std.specs.Prelude.{ℕ, Bool, not, ◌&&◌, ◌||◌, cond, List, [], ◌∷◌, eqb, Option}
use Rattle.line.specs.Octets.{same_octets, high_first_at}
use Rattle.station.specs.declared.Address.{Address}
use Rattle.station.specs.declared.Settings.{Settings}
use Rattle.station.specs.declared.Outcome.{Outcome}
use Rattle.station.specs.Numbers.{by_outcome}
use Rattle.station.specs.Station.{is_pause_mode, is_pfc_mode}
use Rattle.fields.specs.Fields.{destination, first_field}
use Rattle.table.specs.Way.{accepts, way}

-- "First field 0x8808"; "A tagged 0x8808 is an ordinary type."
unfoldable pub is_control_frame : List ℕ → Bool
is_control_frame f = eqb (first_field f) 0x8808

-- "the next two octets are the opcode, high octet first"
unfoldable pub opcode : List ℕ → ℕ
opcode f = high_first_at f 14

-- "The reserved group is 01-80-C2-00-00-01."
unfoldable pub reserved_group : List ℕ
reserved_group = 0x01 ∷ 0x80 ∷ 0xC2 ∷ 0x00 ∷ 0x00 ∷ 0x01 ∷ []

unfoldable pub to_reserved_group : List ℕ → Bool
to_reserved_group f = same_octets (destination f) reserved_group

unfoldable pub to_own : Settings → List ℕ → Bool
to_own s f = same_octets (destination f) s.own.0

-- rule 7, "address rule refuses"; of a control frame "to the reserved group or the own address … Its address isn't tested further"; "A
-- control frame to any other destination: address rule first"
unfoldable pub filtered : Settings → List (Option Address) → List ℕ → Bool
filtered s own f = not (is_control_frame f && (to_reserved_group f || to_own s f)) && not (accepts s own (destination f))

-- rule 8: "Destination is the reserved group or the own address, opcode 0x0001, flow mode `pause`"
unfoldable pub takes_pause : Settings → List ℕ → Bool
takes_pause s f = is_control_frame f && (to_reserved_group f || to_own s f) && eqb (opcode f) 0x0001 && is_pause_mode s.flow

-- rule 9: "Destination is the reserved group, opcode 0x0101, flow mode `PFC`"
unfoldable pub takes_pfc : Settings → List ℕ → Bool
takes_pfc s f = is_control_frame f && to_reserved_group f && eqb (opcode f) 0x0101 && is_pfc_mode s.flow

-- rule 10: "Any other control frame …: 11 with `pass control` on, else 10"
unfoldable pub drops_control : Settings → List ℕ → Bool
drops_control s f = is_control_frame f && not s.passing

-- document 02, item 7: "Every control frame to the reserved group says 8, listed or not."
unfoldable pub frame_way : Settings → List (Option Address) → List ℕ → ℕ
frame_way s own f = cond (is_control_frame f && to_reserved_group f) 8 (way s own (destination f))

-- "The reading carries the number, with 0 for outcomes 1 to 7"
unfoldable pub way_carried : Settings → List (Option Address) → Outcome → List ℕ → ℕ
way_carried s own o f = by_outcome o 0 (frame_way s own f) (frame_way s own f) (frame_way s own f) (frame_way s own f)
