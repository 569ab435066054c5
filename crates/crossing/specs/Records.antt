-- The C face (include/fenhamper.h): what the records that cross stand for, and how answers and states cross back. A record crosses as its octets, or as
-- its numbers of 64 bits. Decoding is total: any are some settings, some state, some client frame.
use Rattle.std.specs.Prelude.{ℕ, zero, suc, ◌+◌, ◌-◌, ◌*◌, ◌%◌, Bool, cond, not, ◌&&◌, List, [], ◌∷◌, ◌++◌, get_or, replicate, eqb, leb, ltb}
use Rattle.line.specs.Octets.{low_first}
use Rattle.station.specs.declared.Address.{Address}
use Rattle.station.specs.declared.Flow.{Flow}
use Rattle.station.specs.declared.Flow.TheVariants.{Off, Pause, Pfc}
use Rattle.station.specs.declared.Port.{Port}
use Rattle.station.specs.declared.Port.TheVariants.{Plain, FourLane}
use Rattle.station.specs.declared.Settings.{Settings}
use Rattle.station.specs.declared.Slots.{Slots}
use Rattle.station.specs.declared.Quanta.{Quanta}
use Rattle.station.specs.declared.State.{State}
use Rattle.flow.specs.Timers.{timer}
use Rattle.table.specs.Entries.{address_at}
use Rattle.receive.specs.declared.Answer.{Answer}
use Rattle.receive.specs.declared.Answer.TheVariants.{Nothing, Open, Counted}
use Rattle.receive.specs.declared.Reading.{Reading}
use Rattle.receive.specs.declared.Walking.{Walking}
use Rattle.receive.specs.Values.{answer_outcome, answer_refusal, answer_status, answer_part, answer_way, walk_refusal, walk_starts, walk_open}
use Rattle.reason.specs.declared.Reason.{Reason}
use Rattle.reason.specs.declared.Reason.TheVariants.{CutAt, ShortRun, WrongOctet, TooShort, TooLong, FcsDiffers}
use Rattle.reason.specs.declared.Reason.TheVariants.{LengthBroken, NotForUs, TookPause, TookPfc, DroppedControl, Handed}
use Rattle.reason.specs.declared.Why.{Why}
use Rattle.reason.specs.declared.Why.TheVariants.{Because}
use Rattle.reason.specs.declared.Explained.{Explained}
use Rattle.reason.specs.Values.{why_outcome, why_refusal}
use Rattle.reading_log.specs.declared.Record.{Record}
use Rattle.logging.specs.declared.LogEnd.{LogEnd}
use Rattle.logging.specs.declared.LogEnd.TheVariants.{Full}
use Rattle.logging.specs.declared.KeepRefusal.{KeepRefusal}
use Rattle.logging.specs.declared.LogWalk.{LogWalk}
use Rattle.logging.specs.Claims.{end_refusal}
use Rattle.writing.specs.declared.Client.{Client}
use Rattle.writing.specs.declared.Classes.{Classes}
use Rattle.writing.specs.declared.Kind.{Kind}
use Rattle.writing.specs.declared.Kind.TheVariants.{Customer, Service}
use Rattle.writing.specs.declared.Tag.{Tag}
use Rattle.writing.specs.declared.Form.{Form}
use Rattle.writing.specs.declared.Form.TheVariants.{ByLength, ByType}
use Rattle.send.specs.declared.Sending.{Sending}
use Rattle.send.specs.Sending.{send_refusal}

-- the values of a function at n places from `at` on
unfoldable pub at_places : {A : Type 0} → (ℕ → A) → ℕ → ℕ → List A
at_places f at zero = []
at_places f at (suc n) = f at ∷ at_places f (at + 1) n

-- ---- what crosses to the module

-- "0 no, anything else yes"
unfoldable pub is_on : List ℕ → ℕ → Bool
is_on o i = not (eqb (get_or o i 0) 0)

-- 1 pause, 2 PFC; "anything else is NONE"
unfoldable pub flow_of : ℕ → Flow
flow_of n = cond (eqb n 1) Pause (cond (eqb n 2) Pfc Off)

-- settings, of 24 octets; here and below a number of 16 bits stands "low octet first, as x86-64 does"
unfoldable pub settings_of : List ℕ → Settings
settings_of o =
    record {
      own = address_at o 0;
      broadcast = is_on o 6;
      promiscuous = is_on o 7;
      checking = is_on o 8;
      limit = low_first o 12 2;
      flow = flow_of (get_or o 10 0);
      passing = is_on o 9;
    }

-- "Of each timer the low 32 bits are read"
unfoldable pub low_at : List ℕ → ℕ → ℕ
low_at l i = get_or l i 0 % 4294967296

-- a state, of 24 numbers: counters, then timers, then the deficit count; "counters and the deficit count are read whole"
unfoldable pub counters_of : List ℕ → List ℕ
counters_of l = at_places (λ (i : ℕ). get_or l i 0) 0 11

unfoldable pub timers_of : List ℕ → List Slots
timers_of l = at_places (λ (i : ℕ). record { 0 = low_at l i }) 11 8

unfoldable pub state_of : List ℕ → State
state_of l = record { counters = counters_of l; timers = timers_of l; deficit = get_or l 19 0 }

-- a port: "0 is PLAIN, anything else FOUR_LANE"
unfoldable pub port_of : ℕ → Port
port_of n = cond (eqb n 0) Plain FourLane

-- a client frame, of 44 octets: of a tag's kind "anything but 0 is SERVICE"; of the form "anything but 0 is TYPE"
unfoldable pub kind_of : ℕ → Kind
kind_of n = cond (eqb n 0) Customer Service

unfoldable pub tag_at : List ℕ → ℕ → Tag
tag_at o at = record { kind = kind_of (get_or o at 0); control = low_first o (at + 2) 2 }

-- eight tags of 4 octets, "the outermost first; those beyond the count are not looked at"
abbrev pub no_tag : Tag
no_tag = record { kind = Customer; control = 0 }

unfoldable pub counted_tag : List ℕ → ℕ → Tag
counted_tag o k = cond (ltb k (get_or o 10 0)) (tag_at o (12 + 4 * k)) no_tag

unfoldable pub tags_of : List ℕ → List Tag
tags_of o = at_places (counted_tag o) 0 8

unfoldable pub form_of : List ℕ → Form
form_of o = cond (eqb (get_or o 7 0) 0) ByLength (ByType (low_first o 8 2))

unfoldable pub client_of : List ℕ → Client
client_of o = record { dest = address_at o 0; tags = tags_of o; count = get_or o 10 0; form = form_of o; class = get_or o 6 0 }

-- quanta, of their number; and what a PFC frame says, of the class octet and eight numbers
abbrev pub quanta_of : ℕ → Quanta
quanta_of n = record { 0 = n }

unfoldable pub classes_of : ℕ → List ℕ → Classes
classes_of named l = record { named = named; quanta = at_places (λ (i : ℕ). quanta_of (get_or l i 0)) 0 8 }

-- the record of a reading, of its 12 numbers: place, outcome, the number of the address, octets handed out and status word, of each its low bits, as many as
-- the field has
unfoldable pub record_named : List ℕ → Record
record_named n =
    record { place = low_at n 3; outcome = get_or n 2 0 % 256; way = get_or n 8 0 % 256; handed = get_or n 7 0 % 65536; status = get_or n 5 0 }

-- ---- what crosses back

-- a state as 24 numbers: counters, timers, the deficit count, and zeros for what is kept for later
unfoldable pub state_numbers : State → List ℕ
state_numbers st = at_places (λ (i : ℕ). get_or st.counters i 0) 0 11 ++ (at_places (λ (i : ℕ). (timer st.timers i).0) 0 8 ++ (st.deficit ∷ replicate 4 0))

-- 0 counted or refused, 1 `none`, 2 `open`
abbrev pub answer_kind : Answer → ℕ
answer_kind (Answer.Refused x) = 0
answer_kind Nothing = 1
answer_kind Open = 2
answer_kind (Counted o w p v) = 0

-- a reading, as 12 numbers: refusal, kind, outcome, the Start's place, the next place, status word, the client data's place and length, which address let the
-- frame in, and zeros for what is kept for later
unfoldable pub reading_numbers : Reading → List ℕ
reading_numbers r =
    answer_refusal r.answer
    ∷ answer_kind r.answer
    ∷ answer_outcome r.answer
    ∷ r.start
    ∷ r.next
    ∷ answer_status r.answer
    ∷ (answer_part r.answer).at
    ∷ (answer_part r.answer).len
    ∷ answer_way r.answer
    ∷ replicate 3 0

-- six octets as one number, the first octet highest
unfoldable pub six_number : Address → ℕ
six_number d =
    get_or d.0 0 0 * 0x100_0000_0000 + get_or d.0 1 0 * 0x1_0000_0000 + get_or d.0 2 0 * 0x100_0000 + get_or d.0 3 0 * 0x1_0000 + get_or d.0 4 0 * 0x100
    + get_or d.0 5 0

-- a reason, as 3 numbers: which one, 1 to 12 in the order of `enum Reason`, and its evidence, 0 where it has none
unfoldable pub reason_numbers : Reason → List ℕ
reason_numbers (CutAt p o) = 1 ∷ p ∷ o ∷ []
reason_numbers (ShortRun n) = 2 ∷ n ∷ 0 ∷ []
reason_numbers (WrongOctet p) = 3 ∷ p ∷ 0 ∷ []
reason_numbers (TooShort n m) = 4 ∷ n ∷ m ∷ []
reason_numbers (TooLong n m) = 5 ∷ n ∷ m ∷ []
reason_numbers (FcsDiffers a b) = 6 ∷ a ∷ b ∷ []
reason_numbers (LengthBroken n m) = 7 ∷ n ∷ m ∷ []
reason_numbers (NotForUs d) = 8 ∷ six_number d ∷ 0 ∷ []
reason_numbers (TookPause n) = 9 ∷ n ∷ 0 ∷ []
reason_numbers (TookPfc n) = 10 ∷ n ∷ 0 ∷ []
reason_numbers (DroppedControl n) = 11 ∷ n ∷ 0 ∷ []
reason_numbers (Handed p n) = 12 ∷ p ∷ n ∷ []

-- 0 for a reason or a refusal, 1 `none`, 2 `open`, as of a reading
abbrev pub why_kind : Why → ℕ
why_kind (Why.Refused x) = 0
why_kind Why.Nothing = 1
why_kind Why.Open = 2
why_kind (Because r) = 0

-- "`none` and `open` have no reason"
unfoldable pub why_reason : Why → List ℕ
why_reason (Why.Refused x) = replicate 3 0
why_reason Why.Nothing = replicate 3 0
why_reason Why.Open = replicate 3 0
why_reason (Because r) = reason_numbers r

-- why a Start has its outcome, as 8 numbers: refusal, kind, outcome, the Start's place, the next place, and the reason's three
unfoldable pub explain_numbers : Explained → List ℕ
explain_numbers e = why_refusal e.answer ∷ why_kind e.answer ∷ why_outcome e.answer ∷ e.start ∷ e.next ∷ why_reason e.answer

-- a walk, as 4 numbers: refusal, counted Starts, 1 if it ended open, and a zero
unfoldable pub walk_numbers : Walking → List ℕ
walk_numbers w = walk_refusal w.answer ∷ walk_starts w.answer ∷ walk_open w.answer ∷ 0 ∷ []

-- a sending call, as 2 numbers: refusal, and the place behind what was written
unfoldable pub sent_numbers : Sending → List ℕ
sent_numbers s = send_refusal s.answer ∷ s.place ∷ []

-- a walk that keeps its readings, as 4 numbers: refusal, how it ended (0 refused, 1 `none`, 2 `open`, 3 no record unused), the next place, and how many
-- records were appended
abbrev pub keep_refusal_number : KeepRefusal → ℕ
keep_refusal_number x = end_refusal (LogEnd.Refused x)

abbrev pub end_kind : LogEnd → ℕ
end_kind (LogEnd.Refused x) = 0
end_kind LogEnd.Nothing = 1
end_kind LogEnd.Open = 2
end_kind Full = 3

unfoldable pub keep_numbers : LogWalk → List ℕ
keep_numbers w = end_refusal w.end ∷ end_kind w.end ∷ w.next ∷ w.kept ∷ []

-- the part itself if it lies inside n octets, else 0 and 0
unfoldable pub part_within : ℕ → ℕ → ℕ → List ℕ
part_within n at len = cond (leb at n && leb len (n - at)) (at ∷ len ∷ []) (0 ∷ 0 ∷ [])
