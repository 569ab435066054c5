-- Document 01, "Both sides of the limits": the cases with a star, as one list of tests of the definitions. The statement is proofs/Limits.antt.
use Rattle.std.specs.Prelude.{ℕ, zero, suc, ◌+◌, ◌-◌, Bool, true, false, not, ◌&&◌, List, [], ◌∷◌, ◌++◌, map, length, replicate, eqb}
use Rattle.line.specs.Limits.{plain_idles}
use Rattle.line.specs.Line.{Symbol, as_data, as_control, start, terminate, preamble, octets_of, marks_of}
use Rattle.line.specs.Octets.{same_octets, high_first}
use Rattle.station.specs.declared.Settings.{Settings}
use Rattle.station.specs.declared.Flow.{Flow}
use Rattle.station.specs.declared.Flow.TheVariants.{Off, Pause, Pfc}
use Rattle.station.specs.declared.Port.TheVariants.{Plain, FourLane}
use Rattle.station.specs.Station.{fresh}
use Rattle.table.specs.declared.Entry.{Entry}
use Rattle.table.specs.Entries.{entries_of}
use Rattle.table.specs.Calls.{empty_table, taken, put_entry}
use Rattle.frame.specs.Length.{kept}
use Rattle.flow.specs.Timers.{slots_of}
use Rattle.receive.specs.declared.Answer.{Answer}
use Rattle.receive.specs.declared.Reading.{Reading}
use Rattle.receive.specs.Values.{answer_outcome, answer_refusal, answer_status, answer_part, answer_way}
use Rattle.receive.specs.Reading.{reading}
use Rattle.receive.specs.Walk.{walk}
use Rattle.writing.specs.declared.Client.{Client}
use Rattle.writing.specs.declared.Kind.{Kind}
use Rattle.writing.specs.declared.Kind.TheVariants.{Customer, Service}
use Rattle.writing.specs.declared.Form.TheVariants.{ByLength}
use Rattle.writing.specs.Frames.{client_body, on_line, pause_symbols, pfc_symbols}
use Rattle.writing.specs.Gaps.{symbols_on}
use Rattle.send.specs.Sending.{SendCall}
use Rattle.mac.specs.Demand3.{Frame, Asked, row_frames, row_from, send_row}

-- ---- what the cases are about

unfoldable pub own_octets : List ℕ
own_octets = 0x02 ∷ 0 ∷ 0 ∷ 0 ∷ 0 ∷ 1 ∷ []

-- "The printing program", its settings, in a flow mode, and with any limit M; it reads as job 0, with a table that nobody holds an entry of
unfoldable pub limited_to : ℕ → Flow → Settings
limited_to limit mode =
    record {
      own = record { 0 = own_octets };
      broadcast = true;
      promiscuous = false;
      checking = true;
      limit = limit;
      flow = mode;
      passing = false;
    }

unfoldable pub settings_in : Flow → Settings
settings_in mode = limited_to 1518 mode

abbrev pub nobody : List Entry
nobody = entries_of empty_table

-- a client frame to the station in the length form, with a number of tags: the outermost of a kind, 0x8100 or a provider's, the others 0x8100
unfoldable pub client : Kind → ℕ → Client
client kind count =
    record {
      dest = record { 0 = own_octets };
      tags = record { kind = kind; control = 7 } ∷ replicate 7 (record { kind = Customer; control = 7 });
      count = count;
      form = ByLength;
      class = 0;
    }

-- its symbols with a number of data octets on a plain port, and how many they are
unfoldable pub sent_with : Kind → ℕ → ℕ → List Symbol
sent_with kind tags n = symbols_on Plain 0 0 (client_body (settings_in Off) (client kind tags) (replicate n 0xA5))

unfoldable pub symbols_sent : Kind → ℕ → ℕ → ℕ
symbols_sent kind tags n = length (sent_with kind tags n)

-- a run of tags, all of the provider's kind
unfoldable pub run_with : ℕ → List ℕ
run_with zero = []
run_with (suc n) = high_first 0x88A8 ++ (high_first 7 ++ run_with n)

-- a frame to the station with a field and a number of data octets, as the FCS covers it
unfoldable pub body_with : ℕ → ℕ → List ℕ
body_with field n = own_octets ++ (own_octets ++ (high_first field ++ replicate n 0xA5))

-- a frame to the station with tags, type 0x0800, a number of data octets and four for the FCS
unfoldable pub tagged_with : ℕ → ℕ → List ℕ
tagged_with tags n = own_octets ++ (own_octets ++ (run_with tags ++ (high_first 0x0800 ++ replicate (n + 4) 0xA5)))

-- a frame with whatever stands in the place of its FCS
unfoldable pub unchecked : List ℕ → List Symbol
unchecked f = as_control start ∷ (map as_data (preamble ++ f) ++ (as_control terminate ∷ []))

-- ---- what they look at

-- an answer's outcome, status word and number of octets handed out
unfoldable pub answer_said : Answer → List ℕ
answer_said a = answer_outcome a ∷ answer_status a ∷ (answer_part a).len ∷ []

unfoldable pub read_as : Flow → List Symbol → List ℕ
read_as mode c = answer_said (reading (settings_in mode) 0 nobody fresh (octets_of c) (marks_of c) 0).answer

-- what is read of it without data
unfoldable pub reads_tagged : Kind → ℕ → List ℕ
reads_tagged kind tags = read_as Off (sent_with kind tags 0)

-- the outcome alone
unfoldable pub outcome_read : List Symbol → ℕ
outcome_read c = answer_outcome (reading (settings_in Off) 0 nobody fresh (octets_of c) (marks_of c) 0).answer

-- the outcomes of a walk, 0 where it ended
unfoldable pub outcomes_read : List Symbol → List ℕ
outcomes_read c = map (λ (r : Reading). answer_outcome r.answer) (walk (settings_in Off) 0 nobody fresh (octets_of c) (marks_of c))

-- behind a number of tags, with a field: of data the rule takes n octets and the 46 of before, and none of their neighbours
unfoldable pub takes : ℕ → ℕ → ℕ → Bool
takes tags field n =
    kept tags field n && not (kept tags field (n - 1)) && not (kept tags field (n + 1)) && kept tags field 46 && not (kept tags field 47)

-- document 02, item 5: client frames of these lengths, FCS included, in a row on the four-lane port, from a fresh state and place 0 on
unfoldable pub row_of : List ℕ → List Asked
row_of lengths = map (λ (n : ℕ). record { port = FourLane; client = client Customer 0; octets = replicate (n - 18) 0xA5 }) lengths

abbrev pub roomy : SendCall
roomy = row_from fresh (replicate 400 0) (replicate 400 0) 0

-- the sizes of their gaps, the place behind the last of them, and the deficit count there
unfoldable pub gaps_in_row : List ℕ → List ℕ
gaps_in_row lengths = map (λ (f : Frame). f.idles + 1) (row_frames (settings_in Off) roomy (row_of lengths))

unfoldable pub after_row : List ℕ → List ℕ
after_row lengths = let x = send_row (settings_in Off) roomy (row_of lengths) in x.given.place ∷ x.given.state.deficit ∷ []

-- document 02, item 10: a group address, a table with an entry that a job lists it by, and one whose first n entries a job holds
unfoldable pub group : ℕ → List ℕ
group n = 0x03 ∷ 0 ∷ 0 ∷ 0 ∷ 0 ∷ n ∷ []

unfoldable pub put : ℕ → ℕ → ℕ → List ℕ → List ℕ
put entry job n t = put_entry t entry (taken job (record { 0 = group n }))

unfoldable pub held_by : ℕ → ℕ → List ℕ
held_by job zero = empty_table
held_by job (suc n) = put n job n (held_by job n)

-- a frame to it, and of a job's reading of that frame the refusal's number, the outcome's and that of the address that let it in
unfoldable pub to_group : ℕ → List Symbol
to_group n = on_line plain_idles (group n ++ (own_octets ++ (high_first 0x0800 ++ replicate 46 0xA5)))

unfoldable pub heard : ℕ → List ℕ → ℕ → List ℕ
heard job t n =
    let a = (reading (settings_in Off) job (entries_of t) fresh (octets_of (to_group n)) (marks_of (to_group n)) 0).answer in
    answer_refusal a ∷ answer_outcome a ∷ answer_way a ∷ []

-- the refusal of a reading with a limit M, by a job, with a table, of so many octets and marks, at a place
unfoldable pub refused_by : ℕ → ℕ → List ℕ → ℕ → ℕ → ℕ → ℕ
refused_by limit job t octets marks place =
    answer_refusal (reading (limited_to limit Off) job (entries_of t) fresh (replicate octets 0) (replicate marks 0) place).answer

-- ---- the cases, in the order of the document

unfoldable pub starred : List Bool
starred =
    -- "length form, data 0, 46, 47, 1500: 84, 84, 85, 1538 symbols; tagged data 0: 88"
    eqb (symbols_sent Customer 0 0) 84
    ∷ eqb (symbols_sent Customer 0 46) 84
    ∷ eqb (symbols_sent Customer 0 47) 85
    ∷ eqb (symbols_sent Customer 0 1500) 1538
    ∷ eqb (symbols_sent Customer 1 0) 88
    -- "field 45 with 46 octets: rule kept, 45 handed out; field 45 with 47: broken"
    ∷ kept 0 45 46
    ∷ same_octets (read_as Off (on_line plain_idles (body_with 45 46))) (11 ∷ 0x400040002D ∷ 45 ∷ [])
    ∷ not (kept 0 45 47)
    ∷ eqb (outcome_read (on_line plain_idles (body_with 45 47))) 6
    -- "field 1500 with 1500: kept; field 1501 with 1501: broken"
    ∷ kept 0 1500 1500
    ∷ not (kept 0 1501 1501)
    -- "field 1535: wrong length; 1536: a type"
    ∷ not (kept 0 1535 1535)
    ∷ eqb (outcome_read (on_line plain_idles (body_with 1535 46))) 6
    ∷ kept 0 1536 46
    ∷ eqb (outcome_read (on_line plain_idles (body_with 1536 46))) 11
    -- "Start, Start, Terminate: 1, then 2"
    ∷ same_octets (outcomes_read (as_control start ∷ as_control start ∷ as_control terminate ∷ [])) (1 ∷ 2 ∷ 0 ∷ [])
    -- "63 octets: 3, FCS not looked at": with a wrong one and with the right one
    ∷ same_octets (read_as Off (unchecked (body_with 46 49))) (3 ∷ 0 ∷ 0 ∷ [])
    ∷ same_octets (read_as Off (on_line plain_idles (body_with 46 45))) (3 ∷ 0 ∷ 0 ∷ [])
    -- "M 1518: untagged 1519 is 4; tagged 1522 isn't": the next rule decides, since no FCS stands there
    ∷ eqb (outcome_read (unchecked (body_with 0x0800 1505))) 4
    ∷ eqb (outcome_read (unchecked (body_with 0x8100 1508))) 5
    -- "one quantum is 64 slots; 65,535 are 4,194,240"
    ∷ eqb (slots_of (record { 0 = 1 })).0 64
    ∷ eqb (slots_of (record { 0 = 65535 })).0 4194240
    -- "pause to the reserved group, 64 octets: status 0x2C0040002E; PFC: 0xA40040002E"
    ∷ same_octets (read_as Pause (pause_symbols plain_idles (settings_in Pause) (record { 0 = 5 }))) (8 ∷ 0x2C0040002E ∷ 0 ∷ [])
    ∷ same_octets (read_as Pfc (pfc_symbols plain_idles (settings_in Pfc) (record { named = 0x81; quanta = replicate 8 (record { 0 = 5 }) })))
    (9 ∷ 0xA40040002E ∷ 0 ∷ [])
    -- "unicast, length form, data 0, handed out: 0x4000400000"
    ∷ same_octets (reads_tagged Customer 0) (11 ∷ 0x4000400000 ∷ 0 ∷ [])
    -- document 02, item 1, of one tag of either kind, two and eight tags: 4 symbols each; "Status bit 33 means exactly one tag, bit 32 two or more"
    ∷ eqb (symbols_sent Service 1 0) 88
    ∷ eqb (symbols_sent Service 2 0) 92
    ∷ eqb (symbols_sent Service 8 0) 116
    ∷ same_octets (reads_tagged Customer 1) (11 ∷ 0x4200440000 ∷ 0 ∷ [])
    ∷ same_octets (reads_tagged Service 1) (11 ∷ 0x4200440000 ∷ 0 ∷ [])
    ∷ same_octets (reads_tagged Service 2) (11 ∷ 0x4100480000 ∷ 0 ∷ [])
    ∷ same_octets (reads_tagged Service 8) (11 ∷ 0x4100600000 ∷ 0 ∷ [])
    -- "M grows by 4 for each tag": with two tags 1526 octets are allowed, 1527 are not; "a ninth is an ordinary type": with nine 1550 are, 1551 not
    ∷ eqb (outcome_read (unchecked (tagged_with 2 1500))) 5
    ∷ eqb (outcome_read (unchecked (tagged_with 2 1501))) 4
    ∷ eqb (outcome_read (unchecked (tagged_with 9 1496))) 5
    ∷ eqb (outcome_read (unchecked (tagged_with 9 1497))) 4
    -- document 02, item 2: "the larger of the field and 46 - 4 × n, or the 46 of before; nothing else", with no, one, two and eight tags
    ∷ takes 0 10 46
    ∷ takes 0 45 46
    ∷ takes 1 10 42
    ∷ takes 1 42 42
    ∷ takes 1 43 43
    ∷ takes 2 10 38
    ∷ takes 2 39 39
    ∷ takes 8 10 14
    ∷ takes 8 14 14
    ∷ takes 8 15 15
    -- document 02, item 5: frames of 64 to 67 octets in a row from a count of 0; r is 0, 1, 2 and 3
    ∷ same_octets (gaps_in_row (64 ∷ 65 ∷ 66 ∷ 67 ∷ [])) (12 ∷ 11 ∷ 10 ∷ 13 ∷ [])
    ∷ same_octets (after_row (64 ∷ [])) (84 ∷ 0 ∷ [])
    ∷ same_octets (after_row (64 ∷ 65 ∷ [])) (168 ∷ 1 ∷ [])
    ∷ same_octets (after_row (64 ∷ 65 ∷ 66 ∷ [])) (252 ∷ 3 ∷ [])
    ∷ same_octets (after_row (64 ∷ 65 ∷ 66 ∷ 67 ∷ [])) (340 ∷ 2 ∷ [])
    -- document 02, item 10: an own entry accepts, the other job's does not; "16 plus the entry", from entry 0 to 15
    ∷ same_octets (heard 0 empty_table 1) (0 ∷ 7 ∷ 0 ∷ [])
    ∷ same_octets (heard 0 (put 0 0 1 empty_table) 1) (0 ∷ 11 ∷ 16 ∷ [])
    ∷ same_octets (heard 1 (put 0 0 1 empty_table) 1) (0 ∷ 7 ∷ 0 ∷ [])
    ∷ same_octets (heard 0 (put 15 1 1 empty_table) 1) (0 ∷ 7 ∷ 0 ∷ [])
    ∷ same_octets (heard 1 (put 15 1 1 empty_table) 1) (0 ∷ 11 ∷ 31 ∷ [])
    -- "Both may list the same address."
    ∷ same_octets (heard 0 (put 0 1 1 (put 2 0 1 empty_table)) 1) (0 ∷ 11 ∷ 18 ∷ [])
    ∷ same_octets (heard 1 (put 0 1 1 (put 2 0 1 empty_table)) 1) (0 ∷ 11 ∷ 16 ∷ [])
    -- "14 job above 1"
    ∷ same_octets (heard 2 empty_table 1) (14 ∷ 0 ∷ 0 ∷ [])
    -- "20 a table where a job holds above 12 or has an address twice", whichever job reads
    ∷ same_octets (heard 0 (held_by 0 12) 11) (0 ∷ 11 ∷ 27 ∷ [])
    ∷ same_octets (heard 0 (held_by 0 13) 11) (20 ∷ 0 ∷ 0 ∷ [])
    ∷ same_octets (heard 0 (held_by 1 13) 11) (20 ∷ 0 ∷ 0 ∷ [])
    ∷ same_octets (heard 1 (put 0 0 1 (put 15 0 1 empty_table)) 1) (20 ∷ 0 ∷ 0 ∷ [])
    -- "14 …, tested right after 1", and 20 after 3: with all of them, and from the front on one less each time
    ∷ eqb (refused_by 1517 2 (held_by 0 13) 4 5 5) 1
    ∷ eqb (refused_by 1518 2 (held_by 0 13) 4 5 5) 14
    ∷ eqb (refused_by 1518 1 (held_by 0 13) 4 5 5) 2
    ∷ eqb (refused_by 1518 1 (held_by 0 13) 4 4 5) 3
    ∷ eqb (refused_by 1518 1 (held_by 0 13) 4 4 4) 20
    ∷ eqb (refused_by 1518 1 (held_by 0 12) 4 4 4) 0
    ∷ []

unfoldable pub all_true : List Bool → Bool
all_true [] = true
all_true (b ∷ bs) = b && all_true bs
