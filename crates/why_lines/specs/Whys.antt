-- Document 02, item 8, as the crew's program `why` prints it. A text stands as its octets, with the text itself in the comment above.
use Rattle.std.proofs.Common.{sym, ap}
use Rattle.std.specs.Prelude.{◌≡◌, ℕ, zero, suc, ◌+◌, Bool, true, false, cond, List, [], ◌∷◌, ◌++◌, length, get_or, eqb}
use Rattle.line.specs.Line.{idle, start}
use Rattle.line.specs.Table.{◌⇒◌, ◌∣◌, otherwise, first}
use Rattle.station.specs.declared.Settings.{Settings}
use Rattle.printing.specs.Decimal.{decimal}
use Rattle.printing.specs.Lines.{space, newline, program_settings, program_job, program_table, followed, last_line, bad_input, record_octets, record_marks}
use Rattle.reason.specs.declared.Reason.{Reason}
use Rattle.reason.specs.declared.Reason.TheVariants.{CutAt, ShortRun, WrongOctet, TooShort, TooLong, FcsDiffers, LengthBroken, NotForUs, TookPause, TookPfc, DroppedControl, Handed}
use Rattle.reason.specs.declared.Why.TheVariants.{Refused, Nothing, Open, Because}
use Rattle.reason.specs.declared.Explained.{Explained}
use Rattle.table.specs.declared.Entry.{Entry}
use Rattle.reason.specs.Reasons.{explained}
use Rattle.reason.specs.Values.{has_reason}
use Rattle.why_lines.specs.Hex.{hex_octet, hex16, hex32}

-- ---- words, and what stands behind them

unfoldable pub with_number : List ℕ → ℕ → List ℕ
with_number words n = words ++ decimal n

unfoldable pub with_hex16 : List ℕ → ℕ → List ℕ
with_hex16 words n = words ++ hex16 n

unfoldable pub with_hex32 : List ℕ → ℕ → List ℕ
with_hex32 words n = words ++ hex32 n

-- the digits of an octet and the octet after them; three octets of an address so, a dash (45) between them
unfoldable pub hex_then : ℕ → ℕ → List ℕ
hex_then v x = hex_octet v ++ (x ∷ [])

unfoldable pub three_octets : ℕ → ℕ → ℕ → ℕ → List ℕ
three_octets a b c x = hex_then a 45 ++ hex_then b 45 ++ hex_then c x

-- the name of a control octet, and the end of the line: " (Idle)", " (Start)", " (Error)"; "Any other control octet … is treated like Error":
-- " (like Error)"
unfoldable pub end_name : ℕ → List ℕ
end_name v =
    first
    (eqb v idle ⇒ (32 ∷ 40 ∷ 73 ∷ 100 ∷ 108 ∷ 101 ∷ 41 ∷ 10 ∷ [])
    ∣ eqb v start ⇒ (32 ∷ 40 ∷ 83 ∷ 116 ∷ 97 ∷ 114 ∷ 116 ∷ 41 ∷ 10 ∷ [])
    ∣ eqb v 0xFE ⇒ (32 ∷ 40 ∷ 69 ∷ 114 ∷ 114 ∷ 111 ∷ 114 ∷ 41 ∷ 10 ∷ [])
    ∣ otherwise (32 ∷ 40 ∷ 108 ∷ 105 ∷ 107 ∷ 101 ∷ 32 ∷ 69 ∷ 114 ∷ 114 ∷ 111 ∷ 114 ∷ 41 ∷ 10 ∷ []))

-- a size and its limit: ".., limit .."
unfoldable pub sizes : List ℕ → ℕ → ℕ → List ℕ
sizes words n limit = with_number words n ++ with_number (44 ∷ 32 ∷ 108 ∷ 105 ∷ 109 ∷ 105 ∷ 116 ∷ 32 ∷ []) limit ++ (newline ∷ [])

unfoldable pub opcode_text : List ℕ → ℕ → List ℕ
opcode_text words n = with_hex16 words n ++ (newline ∷ [])

-- ---- what is said of a reason, to the end of its line

unfoldable pub reason_text : Reason → List ℕ
-- cut at 484 by 0xFB (Start)
reason_text (CutAt p o) = with_number (99 ∷ 117 ∷ 116 ∷ 32 ∷ 97 ∷ 116 ∷ 32 ∷ []) p ++ (32 ∷ 98 ∷ 121 ∷ 32 ∷ 48 ∷ 120 ∷ []) ++ hex_octet o ++ end_name o
-- bad preamble: run length 3
reason_text (ShortRun n) =
    with_number (98 ∷ 97 ∷ 100 ∷ 32 ∷ 112 ∷ 114 ∷ 101 ∷ 97 ∷ 109 ∷ 98 ∷ 108 ∷ 101 ∷ 58 ∷ 32 ∷ 114 ∷ 117 ∷ 110 ∷ 32 ∷ 108 ∷ 101 ∷ 110 ∷ 103 ∷ 116 ∷ 104 ∷ 32 ∷ []) n
    ++ (newline ∷ [])
-- bad preamble: first wrong place 59
reason_text (WrongOctet p) =
    with_number
    (98 ∷ 97 ∷ 100 ∷ 32 ∷ 112 ∷ 114 ∷ 101 ∷ 97 ∷ 109 ∷ 98 ∷ 108 ∷ 101 ∷ 58 ∷ 32 ∷ 102 ∷ 105 ∷ 114 ∷ 115 ∷ 116 ∷ 32 ∷ 119 ∷ 114 ∷ 111 ∷ 110 ∷ 103 ∷ 32 ∷ 112 ∷ 108 ∷ 97 ∷ 99 ∷ 101 ∷ 32 ∷ [])
    p
    ++ (newline ∷ [])
-- undersized: length 63, limit 64
reason_text (TooShort n limit) = sizes (117 ∷ 110 ∷ 100 ∷ 101 ∷ 114 ∷ 115 ∷ 105 ∷ 122 ∷ 101 ∷ 100 ∷ 58 ∷ 32 ∷ 108 ∷ 101 ∷ 110 ∷ 103 ∷ 116 ∷ 104 ∷ 32 ∷ []) n limit
-- oversized: length 1523, limit 1522
reason_text (TooLong n limit) = sizes (111 ∷ 118 ∷ 101 ∷ 114 ∷ 115 ∷ 105 ∷ 122 ∷ 101 ∷ 100 ∷ 58 ∷ 32 ∷ 108 ∷ 101 ∷ 110 ∷ 103 ∷ 116 ∷ 104 ∷ 32 ∷ []) n limit
-- wrong FCS: stands 0x1234ABCD, should be 0x89ABCDEF
reason_text (FcsDiffers there computed) =
    with_hex32 (119 ∷ 114 ∷ 111 ∷ 110 ∷ 103 ∷ 32 ∷ 70 ∷ 67 ∷ 83 ∷ 58 ∷ 32 ∷ 115 ∷ 116 ∷ 97 ∷ 110 ∷ 100 ∷ 115 ∷ 32 ∷ 48 ∷ 120 ∷ []) there
    ++ with_hex32 (44 ∷ 32 ∷ 115 ∷ 104 ∷ 111 ∷ 117 ∷ 108 ∷ 100 ∷ 32 ∷ 98 ∷ 101 ∷ 32 ∷ 48 ∷ 120 ∷ []) computed
    ++ (newline ∷ [])
-- wrong length: field 0x002D, data length 47
reason_text (LengthBroken field n) =
    with_hex16 (119 ∷ 114 ∷ 111 ∷ 110 ∷ 103 ∷ 32 ∷ 108 ∷ 101 ∷ 110 ∷ 103 ∷ 116 ∷ 104 ∷ 58 ∷ 32 ∷ 102 ∷ 105 ∷ 101 ∷ 108 ∷ 100 ∷ 32 ∷ 48 ∷ 120 ∷ []) field
    ++ with_number (44 ∷ 32 ∷ 100 ∷ 97 ∷ 116 ∷ 97 ∷ 32 ∷ 108 ∷ 101 ∷ 110 ∷ 103 ∷ 116 ∷ 104 ∷ 32 ∷ []) n
    ++ (newline ∷ [])
-- filtered: to 02-00-00-00-00-02
reason_text (NotForUs d) =
    (102 ∷ 105 ∷ 108 ∷ 116 ∷ 101 ∷ 114 ∷ 101 ∷ 100 ∷ 58 ∷ 32 ∷ 116 ∷ 111 ∷ 32 ∷ [])
    ++ three_octets (get_or d.0 0 0) (get_or d.0 1 0) (get_or d.0 2 0) 45
    ++ three_octets (get_or d.0 3 0) (get_or d.0 4 0) (get_or d.0 5 0) newline
-- pause taken: opcode 0x0001
reason_text (TookPause n) =
    opcode_text (112 ∷ 97 ∷ 117 ∷ 115 ∷ 101 ∷ 32 ∷ 116 ∷ 97 ∷ 107 ∷ 101 ∷ 110 ∷ 58 ∷ 32 ∷ 111 ∷ 112 ∷ 99 ∷ 111 ∷ 100 ∷ 101 ∷ 32 ∷ 48 ∷ 120 ∷ []) n
-- PFC taken: opcode 0x0101
reason_text (TookPfc n) = opcode_text (80 ∷ 70 ∷ 67 ∷ 32 ∷ 116 ∷ 97 ∷ 107 ∷ 101 ∷ 110 ∷ 58 ∷ 32 ∷ 111 ∷ 112 ∷ 99 ∷ 111 ∷ 100 ∷ 101 ∷ 32 ∷ 48 ∷ 120 ∷ []) n
-- control dropped: opcode 0x0001
reason_text (DroppedControl n) =
    opcode_text
    (99 ∷ 111 ∷ 110 ∷ 116 ∷ 114 ∷ 111 ∷ 108 ∷ 32 ∷ 100 ∷ 114 ∷ 111 ∷ 112 ∷ 112 ∷ 101 ∷ 100 ∷ 58 ∷ 32 ∷ 111 ∷ 112 ∷ 99 ∷ 111 ∷ 100 ∷ 101 ∷ 32 ∷ 48 ∷ 120 ∷ [])
    n
-- handed out: data at 2117, length 6
reason_text (Handed p n) =
    with_number (104 ∷ 97 ∷ 110 ∷ 100 ∷ 101 ∷ 100 ∷ 32 ∷ 111 ∷ 117 ∷ 116 ∷ 58 ∷ 32 ∷ 100 ∷ 97 ∷ 116 ∷ 97 ∷ 32 ∷ 97 ∷ 116 ∷ 32 ∷ []) p
    ++ with_number (44 ∷ 32 ∷ 108 ∷ 101 ∷ 110 ∷ 103 ∷ 116 ∷ 104 ∷ 32 ∷ []) n
    ++ (newline ∷ [])

-- a line: the Start's place, a space, and its reason
unfoldable pub why_line : ℕ → Reason → List ℕ
why_line i r = followed i space ++ reason_text r

-- ---- the lines of a capture

-- "Given a capture and a Start": Start by Start, each searched from the next place of the one before, until one has no reason; `left` at most
unfoldable pub explained_from : ℕ → Settings → ℕ → List Entry → List ℕ → List ℕ → ℕ → List Explained
explained_from zero s job es os ms p = []
explained_from (suc left) s job es os ms p =
    explained s job es os ms p
    ∷ elim (has_reason (explained s job es os ms p).answer) [
      | true ↦ explained_from left s job es os ms (explained s job es os ms p).next
      | false ↦ []
    ]

-- a line for each reason, where n Starts are counted already, and the last line, as the printing program has it. No call of the program is refused.
unfoldable pub whys_of : ℕ → List Explained → List ℕ
whys_of n [] = last_line n 0
whys_of n (e ∷ es) =
    elim e.answer [
      | Refused x ↦ last_line n 0
      | Nothing ↦ last_line n 0
      | Open ↦ last_line n 1
      | Because r ↦ why_line e.start r ++ whys_of (n + 1) es
    ]

-- what is printed of a capture: there are no more Starts than symbols
unfoldable pub capture_whys : List ℕ → List ℕ → List ℕ
capture_whys os ms = whys_of 0 (explained_from (length os + 1) program_settings program_job program_table os ms 0)

-- and of an input: "bad input" alone, or the lines of its records
unfoldable pub printed_whys : List ℕ → List ℕ
printed_whys input =
    cond (bad_input input)
    (98 ∷ 97 ∷ 100 ∷ 32 ∷ 105 ∷ 110 ∷ 112 ∷ 117 ∷ 116 ∷ 10 ∷ [])
    (capture_whys (record_octets input) (record_marks input))

-- so of an input that is not good it prints `bad input`
pub printed_whys_bad : (input : List ℕ) → bad_input input ≡ true → (98 ∷ 97 ∷ 100 ∷ 32 ∷ 105 ∷ 110 ∷ 112 ∷ 117 ∷ 116 ∷ 10 ∷ []) ≡ printed_whys input
unfolding printed_whys
printed_whys_bad input bad =
    sym (ap (λ (b : Bool). cond b (98 ∷ 97 ∷ 100 ∷ 32 ∷ 105 ∷ 110 ∷ 112 ∷ 117 ∷ 116 ∷ 10 ∷ []) (capture_whys (record_octets input) (record_marks input))) bad)
