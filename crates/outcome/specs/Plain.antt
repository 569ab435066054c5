-- The plain frame to the own address, which is the frame most seen: of it rules 1 to 4 and 6 to 10 of document 01's "Reading one Start" do not hold. That
-- is a theorem, `plain_judged_lem` (proofs/Plain). The code looks for it first; no promise to a caller needs it.
use Rattle.std.specs.Prelude.{ℕ, ◌+◌, ◌≤◌, ◌≡◌, false, cond, List, ◌++◌, length, take, drop}
use Rattle.line.specs.Limits.{preamble_size, least_frame, least_type}
use Rattle.line.specs.Line.{terminate, preamble}
use Rattle.station.specs.declared.Address.{Address}
use Rattle.station.specs.declared.Outcome.{Outcome}
use Rattle.station.specs.declared.Outcome.TheVariants.{WrongFcs, HandedOut}
use Rattle.station.specs.Station.{is_group}
use Rattle.fcs.specs.Fcs.{fcs_of}
use Rattle.fields.specs.Fields.{first_field}
use Rattle.fields.specs.Tags.{is_tag_kind}
use Rattle.frame.specs.Frame.{covered, wrong_fcs}
use Rattle.outcome.specs.declared.Judged.{Judged}
use Rattle.outcome.specs.Outcomes.{frame_of}

-- how a run to an address opens: the preamble, and the destination
unfoldable pub opening_of : Address → List ℕ
opening_of a = preamble ++ a.0

-- a first field that is no tag (rule 4: the limit is M), "1536 or more is a type" (rule 6), and not that of a control frame (rules 8 to 10)
pub record Ordinary (field : ℕ) : Type 0 where
  pub untagged : is_tag_kind field ≡ false
  pub type : least_type ≤ field
  pub uncontrolled : field ≡ 0x8808 → ⊥

-- a run ended by the control octet `by`, with the opening of the own address and the limit M
pub record Plain (opening : List ℕ) (limit : ℕ) (run : List ℕ) (by : ℕ) : Type 0 where
  -- rule 1: ended by Terminate
  pub ended : by ≡ terminate
  -- rule 2: the preamble is right; rule 7: the destination is the own address, and no group, so that it is not broadcast
  pub opens : take 13 run ≡ opening
  pub single : is_group (drop preamble_size opening) ≡ false
  -- rule 3: the preamble and 64 octets at least
  pub long : preamble_size + least_frame ≤ length run
  -- rule 4: the preamble and M octets at most
  pub within : length run ≤ limit + preamble_size
  pub ordinary : Ordinary (first_field (frame_of run))

-- what becomes of it: rule 5, else outcome 11; and the check is made
unfoldable pub plain_outcome : List ℕ → Outcome
plain_outcome run = cond (wrong_fcs (frame_of run)) WrongFcs HandedOut

unfoldable pub plain_judged : List ℕ → Judged
plain_judged run = record { outcome = plain_outcome run; check = fcs_of (covered (frame_of run)) }
