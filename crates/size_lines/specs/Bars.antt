-- Document 02, item 13, as the crew's program `size_table` prints it: the table of a capture as text with bars. A text stands as its octets, with the text
-- itself in the comment above.
use Rattle.std.specs.Prelude.{ℕ, ◌+◌, ◌/◌, ◌%◌, cond, List, [], ◌∷◌, ◌++◌, get_or, replicate, eqb, ltb, leb}
use Rattle.line.specs.Table.{◌⇒◌, ◌∣◌, otherwise, first}
use Rattle.printing.specs.Lines.{space, newline, program_settings, program_job, program_table, followed, bad_input, record_octets, record_marks}
use Rattle.sizes.specs.declared.SizeTable.{SizeTable}
use Rattle.sizes.specs.Sizes.{fresh_sizes, adding}

-- ---- bars

unfoldable pub greater : ℕ → ℕ → ℕ
greater a b = cond (ltb a b) b a

unfoldable pub largest : List ℕ → ℕ
largest [] = 0
largest (n ∷ ns) = greater n (largest ns)

-- how many frames a mark stands for, so that the longest bar stays within 40 marks
unfoldable pub unit : List ℕ → ℕ
unit counts = largest counts / 40 + 1

-- how many marks n frames have: one for each u, and one for what is left; 40 at most
unfoldable pub marks : ℕ → ℕ → ℕ
marks n u = first (leb 40 (n / u) ⇒ 40 ∣ eqb (n % u) 0 ⇒ (n / u) ∣ otherwise (n / u + 1))

-- ---- lines

-- the line of a band: its words, frames, octets, and a mark (35, `#`) for each so many frames
unfoldable pub band_line : List ℕ → ℕ → ℕ → ℕ → List ℕ
band_line words frames octets u = words ++ followed frames space ++ followed octets space ++ replicate (marks frames u) 35 ++ (newline ∷ [])

-- frames to a mark 1
unfoldable pub unit_line : ℕ → List ℕ
unit_line u = (102 ∷ 114 ∷ 97 ∷ 109 ∷ 101 ∷ 115 ∷ 32 ∷ 116 ∷ 111 ∷ 32 ∷ 97 ∷ 32 ∷ 109 ∷ 97 ∷ 114 ∷ 107 ∷ 32 ∷ []) ++ followed u newline

-- "64, 65 to 127, 128 to 255, 256 to 511, 512 to 1023, 1024 to 1518, above": a line for each, and the last line, where a mark stands for u frames
unfoldable pub low_lines : SizeTable → ℕ → List ℕ
low_lines t u =
    band_line (54 ∷ 52 ∷ 32 ∷ 32 ∷ 32 ∷ 32 ∷ 32 ∷ 32 ∷ 32 ∷ 32 ∷ 32 ∷ 32 ∷ 32 ∷ []) (get_or t.frames 0 0) (get_or t.octets 0 0) u
    ++ band_line (54 ∷ 53 ∷ 32 ∷ 116 ∷ 111 ∷ 32 ∷ 49 ∷ 50 ∷ 55 ∷ 32 ∷ 32 ∷ 32 ∷ 32 ∷ []) (get_or t.frames 1 0) (get_or t.octets 1 0) u
    ++ band_line (49 ∷ 50 ∷ 56 ∷ 32 ∷ 116 ∷ 111 ∷ 32 ∷ 50 ∷ 53 ∷ 53 ∷ 32 ∷ 32 ∷ 32 ∷ []) (get_or t.frames 2 0) (get_or t.octets 2 0) u
    ++ band_line (50 ∷ 53 ∷ 54 ∷ 32 ∷ 116 ∷ 111 ∷ 32 ∷ 53 ∷ 49 ∷ 49 ∷ 32 ∷ 32 ∷ 32 ∷ []) (get_or t.frames 3 0) (get_or t.octets 3 0) u

unfoldable pub high_lines : SizeTable → ℕ → List ℕ
high_lines t u =
    band_line (53 ∷ 49 ∷ 50 ∷ 32 ∷ 116 ∷ 111 ∷ 32 ∷ 49 ∷ 48 ∷ 50 ∷ 51 ∷ 32 ∷ 32 ∷ []) (get_or t.frames 4 0) (get_or t.octets 4 0) u
    ++ band_line (49 ∷ 48 ∷ 50 ∷ 52 ∷ 32 ∷ 116 ∷ 111 ∷ 32 ∷ 49 ∷ 53 ∷ 49 ∷ 56 ∷ 32 ∷ []) (get_or t.frames 5 0) (get_or t.octets 5 0) u
    ++ band_line (97 ∷ 98 ∷ 111 ∷ 118 ∷ 101 ∷ 32 ∷ 32 ∷ 32 ∷ 32 ∷ 32 ∷ 32 ∷ 32 ∷ 32 ∷ []) (get_or t.frames 6 0) (get_or t.octets 6 0) u
    ++ unit_line u

unfoldable pub table_lines : SizeTable → List ℕ
table_lines t = low_lines t (unit t.frames) ++ high_lines t (unit t.frames)

-- what is printed of a capture: the table with nothing but its frames. No capture of the program is refused.
unfoldable pub capture_sizes : List ℕ → List ℕ → List ℕ
capture_sizes os ms = table_lines (adding fresh_sizes program_settings program_job program_table os ms).sizes

-- and of an input: "bad input" alone, or the lines of its records
unfoldable pub printed_sizes : List ℕ → List ℕ
printed_sizes input =
    cond (bad_input input)
    (98 ∷ 97 ∷ 100 ∷ 32 ∷ 105 ∷ 110 ∷ 112 ∷ 117 ∷ 116 ∷ 10 ∷ [])
    (capture_sizes (record_octets input) (record_marks input))
