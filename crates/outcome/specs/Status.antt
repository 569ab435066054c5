-- Document 01, "Status word (source document 004)". `f` is a whole frame, from destination to FCS.
use Rattle.std.specs.Prelude.{ℕ, ◌+◌, ◌*◌, ◌^◌, Bool, cond, not, ◌&&◌, List, length, eqb, leb}
use Rattle.line.specs.Octets.{same_octets}
use Rattle.station.specs.declared.Settings.{Settings}
use Rattle.station.specs.declared.Outcome.{Outcome}
use Rattle.station.specs.Numbers.{by_outcome}
use Rattle.station.specs.Station.{is_group}
use Rattle.fields.specs.Fields.{destination}
use Rattle.frame.specs.Frame.{frame_data}
use Rattle.fields.specs.Tags.{tag_count}
use Rattle.frame.specs.Length.{handed_length}
use Rattle.address.specs.Address.{broadcast_address}
use Rattle.control.specs.Control.{is_control_frame}

-- bit n, where `b`
unfoldable pub bit : ℕ → Bool → ℕ
bit n b = cond b (2 ^ n) 0

-- what destination, first field and the number of tags decide: "38 unicast; 37 multicast other than broadcast; 36 broadcast; … 34 control; 33 tagged;
-- 32 stacked, always 0 for now". Item 1 of document 02: "Status bit 33 means exactly one tag, bit 32 two or more".
unfoldable pub kind_bits : ℕ → List ℕ → ℕ
kind_bits tags f =
    bit 38 (not (is_group (destination f)))
    + bit 37 (is_group (destination f) && not (same_octets (destination f) broadcast_address))
    + bit 36 (same_octets (destination f) broadcast_address)
    + bit 34 (is_control_frame f)
    + bit 33 (eqb tags 1)
    + bit 32 (leb 2 tags)

-- and "31 to 16 frame length, destination to FCS"
unfoldable pub frame_bits : ℕ → List ℕ → ℕ
frame_bits tags f = kind_bits tags f + length f * 2 ^ 16

-- "Outcomes 1 to 7: the whole word is 0"; "Bit 39 PFC taken; … 35 pause taken"; "15 to 0 data length (handed out for 11; all of the data for 8,
-- 9 and 10)": of those bits, the number of data octets and of those handed out
abbrev pub word_of : Outcome → ℕ → ℕ → ℕ → ℕ
word_of o bits all handed = by_outcome o 0 (2 ^ 35 + bits + all) (2 ^ 39 + bits + all) (bits + all) (bits + handed)

-- the same of a frame, its number of tags, of data octets and of those handed out; and of a frame
unfoldable pub status_of : Outcome → List ℕ → ℕ → ℕ → ℕ → ℕ
status_of o f tags all handed = word_of o (frame_bits tags f) all handed

unfoldable pub status : Settings → Outcome → List ℕ → ℕ
status s o f = status_of o f (tag_count f) (length (frame_data f)) (handed_length s.checking f)
