-- Claim 5, demand 3, for the calls as they are made: any symbols, then any number of client frames back to back, with any number of Idles behind
-- the Terminate of each; the readings from place 0, each at the next place of the one before, hand out what the damaged part hands out by itself, and
-- then the frames' data in order, each once. The statements are `demand3` and, with anything after the frames, `demand3_within`. Assumes nothing.
use Rattle.std.specs.Prelude.{Option}
use Prim.Native.Nat.{ℕ, zero, suc, ◌+◌, ◌≤◌}
use native.Mathlib.Omega.{arith}
use mathlib.Core.Path.{◌≡◌, refl, sym, ap, ap₂, ◌∙◌}
use mathlib.Core.Bool.{Bool, true}
use mathlib.Core.List.{List, [], ◌∷◌, ◌++◌, map, append_assoc, append-nil}
use lib.ListN.{length, replicate, length-append}
use Rattle.line.specs.Line.{Symbol, capture, octets_of, marks_of, is_control, as_data, as_control, idle, start, terminate, preamble, is_data, is_start, AfterStart, ended, after_start, MetStart, met_starts}
use Rattle.line.proofs.Symbols.{met_start}
use Rattle.line.proofs.Starts.{look_frame, met_data, Begins}
use Rattle.line.proofs.Buffers.{capture_of, length-capture, length-octets_of, length-marks_of}
use Rattle.fcs.specs.Fcs.{fcs}
use Rattle.station.specs.declared.Address.{Address}
use Rattle.station.specs.declared.Settings.{Settings}
use Rattle.station.specs.declared.State.{State}
use Rattle.station.specs.declared.Outcome.{Outcome}
use Rattle.station.specs.Numbers.{by_outcome}
use Rattle.table.specs.declared.Entry.{Entry}
use Rattle.table.specs.Entries.{mine}
use Rattle.frame.specs.Length.{client_data}
use Rattle.outcome.specs.Outcomes.{frame_of}
use Rattle.receive.specs.Walk.{walk, handed_out}
use Rattle.receive.proofs.Refusals.{passed, fine as refuses-none}
use Rattle.writing.specs.Frames.{gap, on_line, client_body, client_symbols}
use Rattle.mac.specs.Demand2.{Readable}
use Rattle.mac.specs.Demand3.{Frame, Carried, AllCarried, row_symbols, delivered, all_delivered, alone}
use Rattle.mac.proofs.Accepted.{accepted, read_back}
use Rattle.mac.proofs.Clients.{data_handed, clients, walk-hands}
use Rattle.mac.proofs.Seam.{seam, anywhere}

-- after a gap the walk is where it was
idle-skipped : (n at : ℕ) (rest : List Symbol) → met_starts at (replicate n (as_control idle) ++ rest) ≡ met_starts (at + n) rest
unfolding met_starts is_start is_control is_data as_control
idle-skipped zero at rest = ap (λ (k : ℕ). met_starts k rest) (let e : at ≡ at + 0 = omega arith in e)
idle-skipped (suc n) at rest = idle-skipped n (at + 1) rest ∙ ap (λ (k : ℕ). met_starts k rest) (let e : at + 1 + n ≡ at + suc n = omega arith in e)

pub gap-skipped : (idles at : ℕ) (rest : List Symbol) → met_starts at (gap idles ++ rest) ≡ met_starts (at + 1 + idles) rest
unfolding gap met_starts is_start is_control is_data as_control
gap-skipped idles at rest = idle-skipped idles (at + 1) rest

look_gap : (idles : ℕ) (os : List ℕ) (rest : List Symbol) → after_start (map as_data os ++ (gap idles ++ rest)) ≡ ended os terminate
unfolding gap
look_gap idles os rest = look_frame os terminate (replicate idles (as_control idle) ++ rest)

-- a frame on the line is met as one run, and nothing else of it is
module _ (rx : Settings) (own : List (Option Address)) where
  one_line : (at idles : ℕ) (body : List ℕ) (rest : List Symbol)
      → clients rx own (met_starts at (on_line idles body ++ rest))
      ≡ data_handed rx own (ended (preamble ++ (body ++ fcs body)) terminate) ++ clients rx own (met_starts at rest)
  unfolding on_line clients
  one_line at idles body rest =
      let os : List ℕ = preamble ++ (body ++ fcs body) in
      let e : on_line idles body ++ rest ≡ as_control start ∷ (map as_data os ++ (gap idles ++ rest)) =
      ap (λ (l : List Symbol). as_control start ∷ l) (append_assoc (map as_data os) (gap idles) rest) in
      ap (λ (l : List Symbol). clients rx own (met_starts at l)) e
      ∙ ap (clients rx own) (met_start at (as_control start) (map as_data os ++ (gap idles ++ rest)) (unfold is_start is_control is_data as_control in refl))
      ∙ ap₂ (λ (l : AfterStart) (ms : List MetStart). data_handed rx own l ++ clients rx own ms)
      (look_gap idles os rest)
      (met_data (at + 1) os (gap idles ++ rest) ∙ gap-skipped idles (at + 1 + length os) rest)
      ∙ ap (λ (t : List (List ℕ)). data_handed rx own (ended os terminate) ++ t) (anywhere rx own _ at rest)

  module _ (tx : Settings) (checks : rx.checking ≡ true) where
    -- one client frame: its data
    one-frame : (at : ℕ) (f : Frame) → Carried tx rx own f → (rest : List Symbol)
        → clients rx own (met_starts at (client_symbols f.idles tx f.client f.octets ++ rest))
        ≡ delivered f.client.form f.octets ∷ clients rx own (met_starts at rest)
    unfolding client_symbols data_handed frame_of preamble
    one-frame at f w rest =
        let body : List ℕ = client_body tx f.client f.octets in
        one_line at f.idles body rest
        ∙ ap₂ (λ (o : Outcome) (ck : Bool). by_outcome o [] [] [] [] (client_data ck (body ++ fcs body) ∷ []) ++ clients rx own (met_starts at rest))
        (accepted tx rx own f w) checks
        ∙ ap (λ (d : List ℕ). d ∷ clients rx own (met_starts at rest)) (read_back tx rx own f w)

    -- frames one after the other, and then anything
    frames_then : (at : ℕ) (fs : List Frame) (rest : List Symbol) → AllCarried tx rx own fs
        → clients rx own (met_starts at (row_symbols tx fs ++ rest)) ≡ all_delivered fs ++ clients rx own (met_starts at rest)
    unfolding AllCarried row_symbols all_delivered
    frames_then at [] rest w = refl
    frames_then at (f ∷ fs) rest w =
        ap (λ (l : List Symbol). clients rx own (met_starts at l)) (append_assoc (client_symbols f.idles tx f.client f.octets) (row_symbols tx fs) rest)
        ∙ one-frame at f w.0 (row_symbols tx fs ++ rest)
        ∙ ap (λ (l : List (List ℕ)). delivered f.client.form f.octets ∷ l) (frames_then at fs rest w.1)

    all_frames : (at : ℕ) (fs : List Frame) → AllCarried tx rx own fs → clients rx own (met_starts at (row_symbols tx fs)) ≡ all_delivered fs
    unfolding met_starts clients
    all_frames at fs w =
        ap (λ (l : List Symbol). clients rx own (met_starts at l)) (sym (append-nil (row_symbols tx fs))) ∙ frames_then at fs [] w ∙ append-nil (all_delivered fs)

    begins : (fs : List Frame) → Begins (row_symbols tx fs)
    unfolding Begins row_symbols client_symbols on_line is_start is_control is_data as_control
    begins [] = tt
    begins (f ∷ fs) = refl

    begins_more : (f : Frame) (fs : List Frame) (rest : List Symbol) → Begins (row_symbols tx (f ∷ fs) ++ rest)
    unfolding Begins row_symbols client_symbols on_line is_start is_control is_data as_control
    begins_more f fs rest = refl

    -- on the symbols: what the damaged part hands out, and then the frames' data
    after_damage : (damage : List Symbol) (fs : List Frame) → AllCarried tx rx own fs
        → clients rx own (met_starts 0 (damage ++ row_symbols tx fs)) ≡ clients rx own (met_starts 0 damage) ++ all_delivered fs
    after_damage damage fs w =
        seam rx own 0 damage (row_symbols tx fs) (begins fs)
        ∙ ap (λ (l : List (List ℕ)). clients rx own (met_starts 0 damage) ++ l) (all_frames (0 + length damage) fs w)

    between-others : (damage : List Symbol) (f : Frame) (fs : List Frame) (rest : List Symbol) → AllCarried tx rx own (f ∷ fs)
        → clients rx own (met_starts 0 (damage ++ (row_symbols tx (f ∷ fs) ++ rest)))
        ≡ clients rx own (met_starts 0 damage) ++ (all_delivered (f ∷ fs) ++ clients rx own (met_starts 0 rest))
    between-others damage f fs rest w =
        seam rx own 0 damage (row_symbols tx (f ∷ fs) ++ rest) (begins_more f fs rest)
        ∙ ap (λ (l : List (List ℕ)). clients rx own (met_starts 0 damage) ++ l) (frames_then (0 + length damage) (f ∷ fs) rest w
        ∙ ap (λ (l : List (List ℕ)). all_delivered (f ∷ fs) ++ l) (anywhere rx own (0 + length damage) 0 rest))

-- ---- a stretch of a capture is a capture

module _ (rx : Settings) (job : ℕ) (es : List Entry) (os ms : List ℕ) (fine : Readable rx job es os ms) where
  stretch : (l : List Symbol) → length l ≤ length (capture os ms) → Readable rx job es (octets_of l) (marks_of l)
  stretch l h =
      let k = passed rx job es os ms 0 fine in
      let n = length-capture os ms k.even in
      let a = length-octets_of l in
      let b = length-marks_of l in
      let m = k.small in
      refuses-none rx job es (octets_of l) (marks_of l) 0 k.valid k.known (omega arith) (omega arith) (omega arith) k.sound

  hands-alone : (st : State) (l : List Symbol) → length l ≤ length (capture os ms) → alone rx job es st l ≡ clients rx (mine job es) (met_starts 0 l)
  hands-alone st l h =
      walk-hands rx job es (octets_of l) (marks_of l) (stretch l h) st
      ∙ ap (λ (c : List Symbol). clients rx (mine job es) (met_starts 0 c)) (capture_of l)

-- ---- the claim: a sender tx; a receiver rx whose settings are valid and check lengths, with "a job of 0 or 1 and a table that gives no 20" (document 02,
-- item 10); any octets and marks within the size limit

module _ (tx rx : Settings) (job : ℕ) (es : List Entry) (st : State) (os ms : List ℕ) (fine : Readable rx job es os ms) (checks : rx.checking ≡ true) where
  pub demand3 : (damage : List Symbol) (fs : List Frame) → AllCarried tx rx (mine job es) fs → capture os ms ≡ damage ++ row_symbols tx fs
      → handed_out os (walk rx job es st os ms) ≡ alone rx job es st damage ++ all_delivered fs
  demand3 damage fs w e =
      let n : length damage ≤ length (capture os ms) = omega (arith, ap length e, length-append damage (row_symbols tx fs)) in
      walk-hands rx job es os ms fine st
      ∙ ap (λ (c : List Symbol). clients rx (mine job es) (met_starts 0 c)) e
      ∙ after_damage rx (mine job es) tx checks damage fs w
      ∙ ap (λ (l : List (List ℕ)). l ++ all_delivered fs) (sym (hands-alone rx job es os ms fine st damage n))

  -- the same with anything after the frames, of which there is one at least
  pub demand3_within : (damage : List Symbol) (f : Frame) (fs : List Frame) (rest : List Symbol) → AllCarried tx rx (mine job es) (f ∷ fs)
      → capture os ms ≡ damage ++ (row_symbols tx (f ∷ fs) ++ rest)
      → handed_out os (walk rx job es st os ms) ≡ alone rx job es st damage ++ (all_delivered (f ∷ fs) ++ alone rx job es st rest)
  demand3_within damage f fs rest w e =
      let all = ap length e ∙ length-append damage (row_symbols tx (f ∷ fs) ++ rest) in
      let more = length-append (row_symbols tx (f ∷ fs)) rest in
      walk-hands rx job es os ms fine st
      ∙ ap (λ (c : List Symbol). clients rx (mine job es) (met_starts 0 c)) e
      ∙ between-others rx (mine job es) tx checks damage f fs rest w
      ∙ ap₂ (λ (a b : List (List ℕ)). a ++ (all_delivered (f ∷ fs) ++ b))
      (sym (hands-alone rx job es os ms fine st damage (omega arith)))
      (sym (hands-alone rx job es os ms fine st rest (omega arith)))
