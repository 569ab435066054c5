-- The limits of documents 01 and 02, in their order. Each number has one name here, by which definitions, contracts and proofs go; the code's names of
-- them are the constants of src/lib.rt. Both sides of most are cases of mac/specs/Limits, which says the numbers themselves.
use Rattle.std.specs.Prelude.{ℕ, ◌+◌, ◌-◌}

-- ---- Document 01

-- The line: "at most 65,536 symbols"
abbrev pub most_symbols : ℕ
most_symbols = 65536

-- "six data octets 0x55; data 0xD5"; rule 2: "run under 7 octets"
abbrev pub preamble_size : ℕ
preamble_size = 7

-- "Start", and the preamble: what stands before a frame
abbrev pub lead_size : ℕ
lead_size = 1 + preamble_size

-- rule 3: "frame under 64 octets"
abbrev pub least_frame : ℕ
least_frame = 64

-- rule 4: "M + 4 if tagged"; document 02, item 1: "M grows by 4 for each tag"
abbrev pub tag_size : ℕ
tag_size = 4

-- rule 5: "last four octets"
abbrev pub fcs_size : ℕ
fcs_size = 4

-- Length rule: "Field 1536 or more is a type."
abbrev pub least_type : ℕ
least_type = 1536

-- "Field 46 to 1500: data must be exactly that long."; refusal 7: "data over 1500 (length form)"
abbrev pub most_length : ℕ
most_length = 1500

-- "Field under 46: data must be exactly 46"; Sending: "Data under 46 octets is padded with zeros to 46"
abbrev pub least_data : ℕ
least_data = 46

-- Control frames: "A quantum is 512 bit times, which is 64 slots"
abbrev pub quantum_slots : ℕ
quantum_slots = 64

-- Sending: "one Terminate and eleven Idles"
abbrev pub plain_idles : ℕ
plain_idles = 11

-- what the FCS covers of the shortest frame, as of every pause and PFC frame
abbrev pub least_body : ℕ
least_body = least_frame - fcs_size

-- what a frame on the line has around that: Start and preamble, and the FCS
abbrev pub around_body : ℕ
around_body = lead_size + fcs_size

-- refusal 1: "M outside 1518 to 9618"
abbrev pub least_limit : ℕ
least_limit = 1518

abbrev pub most_limit : ℕ
most_limit = 9618

-- refusal 5: "class above 7"
abbrev pub most_class : ℕ
most_class = 7

-- refusal 7: "over M - 18 (type form)": the octets of an untagged frame around its data
abbrev pub around_data : ℕ
around_data = 18

-- The printing program: "at most 32,768 records"
abbrev pub most_records : ℕ
most_records = 32768

-- ---- Document 02

-- item 1: "up to eight tags"; refusal 10: "more than eight tags"
abbrev pub most_tags : ℕ
most_tags = 8

-- item 4: "one record of 16 octets"
abbrev pub record_size : ℕ
record_size = 16

-- item 5: "places divisible by four"
abbrev pub lanes : ℕ
lanes = 4

-- "a deficit count from 0 to 3"; refusal 19: "deficit count above 3"
abbrev pub most_deficit : ℕ
most_deficit = 3

-- "a gap of 12"
abbrev pub full_gap : ℕ
full_gap = 12

-- item 9: "a total for each block of 256 symbols"
abbrev pub block_size : ℕ
block_size = 256

-- refusal 22: "a total above 256"
abbrev pub most_total : ℕ
most_total = block_size

-- item 10: "one address table of 16 entries"
abbrev pub table_entries : ℕ
table_entries = 16

-- "Each holds at most 12"
abbrev pub most_held : ℕ
most_held = 12
