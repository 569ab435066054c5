-- What the claims of document 02, item 8, speak of. The theorems are proofs/Claims.antt.
use Rattle.std.specs.Prelude.{ℕ, ◌+◌, ◌-◌, ◌*◌, ◌≤◌, ◌<◌, ◌≡◌, Bool, true, false, List, [], ◌∷◌, length, get_or, take, drop, replicate, Option}
use Rattle.line.specs.Limits.{preamble_size, lead_size, least_frame, tag_size}
use Rattle.line.specs.Line.{capture, terminate, preamble, ended, after_start}
use Rattle.line.specs.Table.{Table, otherwise, ◌∣◌}
use Rattle.fcs.specs.Fcs.{fcs_of}
use Rattle.station.specs.declared.Address.{Address}
use Rattle.station.specs.declared.Settings.{Settings}
use Rattle.fields.specs.Tags.{tag_count}
use Rattle.fields.specs.Fields.{destination, field, data_place}
use Rattle.frame.specs.Frame.{frame_data, covered}
use Rattle.frame.specs.Length.{kept, handed_length}
use Rattle.control.specs.Control.{opcode, filtered, takes_pause, takes_pfc, drops_control}
use Rattle.outcome.specs.Outcomes.{outcomes, frame_of}
use Rattle.receive.specs.declared.Reading.{Reading}
use Rattle.receive.specs.Values.{answer_outcome, answer_refusal, answer_part, is_counted}
use Rattle.reason.specs.declared.Reason.{Reason}
use Rattle.reason.specs.declared.Reason.TheVariants.{CutAt, ShortRun, WrongOctet, TooShort, TooLong, FcsDiffers, LengthBroken, NotForUs, TookPause, TookPfc, DroppedControl, Handed}
use Rattle.reason.specs.Reasons.{received}
use Rattle.reason.specs.declared.Explained.{Explained}
use Rattle.reason.specs.Values.{reason_number, why_outcome, why_refusal, why_part, has_reason}

-- ---- "its fact holds in that capture"

-- the octets of a capture are octets, as those of every lent buffer are
abbrev pub AllOctets : List ℕ → Type 0
AllOctets os = (k : ℕ) → get_or os k 0 < 256

-- "the first wrong place": k is the first at which a run is not as the preamble
pub record FirstWrong (run : List ℕ) (k : ℕ) : Type 0 where
  pub inside : k < preamble_size
  pub wrong : get_or run k 0 ≡ get_or preamble k 0 → ⊥
  pub before : (j : ℕ) → j < k → get_or run j 0 ≡ get_or preamble j 0

-- what a reason says of a Start at place i, whose run is ended by the control octet `by`: the evidence is that of the run, and it meets the rule
unfoldable pub Fact : Settings → List (Option Address) → ℕ → List ℕ → ℕ → Reason → Type 0
Fact s own i run by (CutAt p o) = (p ≡ i + 1 + length run) × (o ≡ by) × (o ≡ terminate → ⊥)
Fact s own i run by (ShortRun n) = (n ≡ length run) × (n < preamble_size)
Fact s own i run by (WrongOctet p) = (preamble_size ≤ length run) × (i + 1 ≤ p) × FirstWrong run (p - (i + 1))
Fact s own i run by (TooShort n m) = (n ≡ length (frame_of run)) × (m ≡ least_frame) × (n < m)
Fact s own i run by (TooLong n m) = (n ≡ length (frame_of run)) × (m ≡ s.limit + tag_size * tag_count (frame_of run)) × (m < n)
Fact s own i run by (FcsDiffers a b) = (a ≡ received (frame_of run)) × (b ≡ fcs_of (covered (frame_of run))) × (a ≡ b → ⊥)
Fact s own i run by (LengthBroken n m) =
    (n ≡ field (frame_of run)) × (m ≡ length (frame_data (frame_of run))) × (s.checking ≡ true) × (kept (tag_count (frame_of run)) n m ≡ false)
Fact s own i run by (NotForUs d) = (d.0 ≡ destination (frame_of run)) × (filtered s own (frame_of run) ≡ true)
Fact s own i run by (TookPause n) = (n ≡ opcode (frame_of run)) × (takes_pause s (frame_of run) ≡ true)
Fact s own i run by (TookPfc n) = (n ≡ opcode (frame_of run)) × (takes_pfc s (frame_of run) ≡ true)
Fact s own i run by (DroppedControl n) = (n ≡ opcode (frame_of run)) × (drops_control s (frame_of run) ≡ true)
Fact s own i run by (Handed p n) = (p ≡ i + lead_size + data_place (frame_of run)) × (n ≡ handed_length s.checking (frame_of run))

-- ---- "and no earlier rule held"

-- the tests of a table's rows, in their order
unfoldable pub tests : {A : Type 0} → Table A → List Bool
tests (otherwise a) = []
tests (r ∣ rows) = r.holds ∷ tests rows

-- of the table of outcomes, rule n is the first that holds: all before it do not, and it does, or "everything else" is left
pub record FirstRule (s : Settings) (own : List (Option Address)) (run : List ℕ) (by n : ℕ) : Type 0 where
  pub earlier : take (n - 1) (tests (outcomes s own run by (frame_of run))) ≡ replicate (n - 1) false
  pub holds : get_or (tests (outcomes s own run by (frame_of run))) (n - 1) true ≡ true

-- "The reason must be true: its fact holds …, and no earlier rule held."
pub record IsTrue (s : Settings) (own : List (Option Address)) (i : ℕ) (run : List ℕ) (by : ℕ) (r : Reason) : Type 0 where
  pub fact : Fact s own i run by r
  pub rule : FirstRule s own run by (reason_number r)

-- "in that capture": a run follows the Start at place i, and the reason is true of it
pub record Shown (s : Settings) (own : List (Option Address)) (os ms : List ℕ) (i : ℕ) (r : Reason) : Type 0 where
  pub run : List ℕ
  pub by : ℕ
  pub follows : after_start (drop (i + 1) (capture os ms)) ≡ ended run by
  pub is_true : IsTrue s own i run by r

-- ---- "It must be given for each outcome, with the next place equal to the reading's. Refusals: 1 to 3 as in reading.", and 14 and 20 (item 10)

-- a call and a reading: there is a reason exactly where a Start is counted; outcome, places, refusal and, for 11, the part are the reading's
pub record SameAs (e : Explained) (r : Reading) : Type 0 where
  pub start : e.start ≡ r.start
  pub next : e.next ≡ r.next
  pub given : has_reason e.answer ≡ is_counted r.answer
  pub outcome : why_outcome e.answer ≡ answer_outcome r.answer
  pub refusal : why_refusal e.answer ≡ answer_refusal r.answer
  pub part : why_part e.answer ≡ answer_part r.answer
