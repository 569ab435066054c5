-- The pieces in which a frame is written are the frame's symbols, and what is written through two lent parts is written over the whole.
-- Assumes nothing.
use Prim.Native.Nat.{ℕ, zero, suc, ◌+◌, ◌-◌, ◌/◌, ◌%◌, ◌≤◌, ◌<◌}
use native.Mathlib.Numerals.{add-one}
use native.Mathlib.Omega.{arith}
use mathlib.Core.Path.{◌≡◌, refl, sym, ap, ◌∙◌}
use mathlib.Core.List.{List, [], ◌∷◌, ◌++◌, map, append_assoc}
use mathlib.Core.Bool.{cond}
use lib.Dec.{eqb}
use lib.Seq.{sets, drop-cons, length-take-le}
use lib.ListN.{length, get_or, drop, replicate, length-append, length-replicate, length-drop, drop_of_length-le}
use borrow.Rule.Slice.PartMut.{mid_of, put_mid}
use Rattle.line.specs.Limits.{lead_size}
use Rattle.line.specs.Line.{Symbol, octets_of, marks_of, as_data, as_control, overwrite, preamble, idle, terminate}
use Rattle.line.specs.Octets.{high_first, between}
use Rattle.line.proofs.Buffers.{octets_of-append, marks_of-append, length-octets_of}
use Rattle.line.proofs.Octets.{between_middle}
use Rattle.line.proofs.Overwrite.{put-part}
use Rattle.splice.specs.Written.{Put}
use Rattle.splice.proofs.Laws.{◌⨾◌, put-overwrite}
use Rattle.station.specs.declared.Address.{Address}
use Rattle.station.specs.declared.Settings.{Settings}
use Rattle.station.specs.declared.Quanta.{Quanta}
use Rattle.fcs.specs.Fcs.{fcs}
use Rattle.fcs.proofs.Laws.{fcs-four}
use Rattle.control.specs.Control.{reserved_group}
use Rattle.writing.specs.declared.Client.{Client}
use Rattle.writing.specs.declared.Tag.{Tag}
use Rattle.writing.specs.declared.Classes.{Classes}
use Rattle.writing.specs.Frames.{kind_field, tags_sent, tag_octets, field_sent, padded, client_body, gap, on_line, pause_body, class_quanta, pfc_body, idle_symbols}
use Rattle.writing.specs.Pieces.{lead, head_of, control_of, gap_octets, end_of, frame_marks, Laid}
use Rattle.writing.proofs.Sizes.{two, group-six, line_size, idle_size}

-- ---- how long the pieces are

pub lead_size_lem : length lead ≡ lead_size
unfolding lead preamble
lead_size_lem = refl

pub head_size : (dest : List ℕ) (own : Address) → length dest ≡ 6 → length own.0 ≡ 6 → length (head_of dest own) ≡ 20
unfolding head_of
head_size dest own d o = simp (length-append, lead_size_lem) (omega arith)

pub control_size : (own : Address) (opcode : ℕ) → length own.0 ≡ 6 → length (control_of own opcode) ≡ 24
unfolding control_of
control_size own opcode o = simp (length-append, two, head_size reserved_group own group-six o)

pub end_size : (idles : ℕ) (os : List ℕ) (at : ℕ) → length (end_of idles os at) ≡ idles + 5
unfolding end_of gap_octets
end_size idles os at = simp (length-append, fcs-four, length-replicate) (omega arith)

pub marks_size : (idles n : ℕ) → idles + 2 ≤ n → length (frame_marks idles n) ≡ n
unfolding frame_marks
marks_size idles n h = simp (length-append, length-replicate) (omega arith)

-- ---- each body, associated as it is written

pub client_pieces : (s : Settings) (c : Client) (d : List ℕ)
    → ((head_of c.dest.0 s.own ++ tag_octets (tags_sent c)) ++ high_first (field_sent c.form d)) ++ padded d ≡ lead ++ client_body s c d
unfolding head_of client_body
client_pieces s c d = simp append_assoc

pub pause_pieces : (s : Settings) (q : Quanta) → (control_of s.own 0x0001 ++ high_first q.0) ++ replicate 42 0 ≡ lead ++ pause_body s q
unfolding head_of control_of pause_body
pause_pieces s q = simp append_assoc

pub pfc_pieces : (s : Settings) (k : Classes)
    → ((control_of s.own 0x0101 ++ (0 ∷ k.named ∷ [])) ++ class_quanta k.named k.quanta) ++ replicate 26 0 ≡ lead ++ pfc_body s k
unfolding head_of control_of pfc_body
pfc_pieces s k = simp append_assoc

-- ---- the quanta of the classes, one by one

pub quanta_turn : {l m : List ℕ} {p r x : ℕ} (left k : ℕ) (qs : List Quanta) (q : Quanta) → k < length qs
    → x ≡ cond (eqb (left % 2) 1) (get_or qs k q).0 0 → Put l p (high_first x) r m
    → sets m r (class_quanta (left / 2) (drop (k + 1) qs)) ≡ sets l p (class_quanta left (drop k qs))
unfolding class_quanta high_first
quanta_turn {l} {m} {p} {r} {x} left k qs q h e put =
    let two : r ≡ suc (suc p) = omega (arith, put.goes) in
    rw (drop-cons qs k q h, class_quanta, add-one, two, put.holds, e)

pub quanta_end : (l : List ℕ) (p left k : ℕ) (qs : List Quanta) → length qs ≤ k → sets l p (class_quanta left (drop k qs)) ≡ l
unfolding class_quanta
quanta_end l p left k qs h = rw (drop_of_length-le qs {i = k} h)

-- ---- the tags, one by one

pub tags_turn : {l m : List ℕ} {p r : ℕ} (k : ℕ) (ts : List Tag) (t : Tag) → k < length ts
    → Put l p (high_first (kind_field (get_or ts k t).kind) ++ high_first (get_or ts k t).control) r m
    → sets m r (tag_octets (drop (k + 1) ts)) ≡ sets l p (tag_octets (drop k ts))
unfolding tag_octets high_first
tags_turn {l} {m} {p} {r} k ts t h put =
    let four : r ≡ suc (suc (suc (suc p))) = omega (arith, put.goes) in
    rw (drop-cons ts k t h, tag_octets, add-one, four, put.holds)

pub tags_end : (l : List ℕ) (p k : ℕ) (ts : List Tag) → length ts ≤ k → sets l p (tag_octets (drop k ts)) ≡ l
unfolding tag_octets
tags_end l p k ts h = rw (drop_of_length-le ts {i = k} h)

-- ---- the octets and the marks of symbols

data_octets_lem : (l : List ℕ) → octets_of (map as_data l) ≡ l
unfolding octets_of as_data
data_octets_lem [] = refl
data_octets_lem (x ∷ l) = ap (λ (t : List ℕ). x ∷ t) (data_octets_lem l)

data_marks : (l : List ℕ) → marks_of (map as_data l) ≡ replicate (length l) 0
unfolding marks_of as_data
data_marks [] = refl
data_marks (x ∷ l) = ap (λ (t : List ℕ). 0 ∷ t) (data_marks l)

pub idle-octets : (n : ℕ) → octets_of (idle_symbols n) ≡ replicate n idle
unfolding octets_of as_control idle_symbols
idle-octets zero = refl
idle-octets (suc n) = ap (λ (t : List ℕ). idle ∷ t) (idle-octets n)

pub idle-marks : (n : ℕ) → marks_of (idle_symbols n) ≡ replicate n 1
unfolding marks_of as_control idle_symbols
idle-marks zero = refl
idle-marks (suc n) = ap (λ (t : List ℕ). 1 ∷ t) (idle-marks n)

gap-octets : (idles : ℕ) → octets_of (gap idles) ≡ gap_octets idles
unfolding octets_of as_control gap gap_octets idle_symbols
gap-octets idles = ap (λ (t : List ℕ). terminate ∷ t) (idle-octets idles)

gap-marks : (idles : ℕ) → marks_of (gap idles) ≡ replicate (idles + 1) 1
unfolding marks_of as_control gap idle_symbols
gap-marks idles = ap (λ (t : List ℕ). 1 ∷ t) (idle-marks idles) ∙ ap (λ (n : ℕ). replicate n 1) (sym (add-one idles))

pub line_octets : (idles : ℕ) (body : List ℕ) → octets_of (on_line idles body) ≡ (lead ++ body) ++ (fcs body ++ gap_octets idles)
unfolding octets_of as_control on_line lead
line_octets idles body = simp (octets_of-append, data_octets_lem, gap-octets, append_assoc)

seven : length preamble ≡ 7
unfolding preamble
seven = refl

pub line_marks : (idles : ℕ) (body : List ℕ) → marks_of (on_line idles body) ≡ frame_marks idles (13 + idles + length body)
unfolding marks_of as_control on_line frame_marks
line_marks idles body =
    let n : length (preamble ++ (body ++ fcs body)) ≡ (13 + idles + length body) - (idles + 2) = simp (length-append, fcs-four, seven) (omega arith) in
    simp (marks_of-append, data_marks, gap-marks, n)

-- ---- a frame that is written up to its FCS, and then finished

-- what the FCS covers is what was written behind Start and the preamble
covered : {os os₁ body : List ℕ} {e : ℕ} → Put os 0 (lead ++ body) e os₁ → e ≤ length os → between os₁ lead_size e ≡ body
unfolding overwrite
covered {os} {os₁} {body} {e} p h =
    let n : length (lead ++ body) ≡ lead_size + length body = simp (length-append, lead_size_lem) in
    let rest = drop (0 + length (lead ++ body)) os in
    let s = lead_size_lem in
    ap (λ (l : List ℕ). between l lead_size e) (put-overwrite p (omega (arith, p.goes)) ∙ append_assoc lead body rest)
    ∙ between_middle lead body rest lead_size e lead_size_lem (omega (arith, p.goes))

-- where it is finished: behind the start, with room for its end
pub body_end : (idles : ℕ) (body : List ℕ) {os os₁ : List ℕ} {e : ℕ} → Put os 0 (lead ++ body) e os₁ → (8 ≤ e) × (e + (idles + 5) ≡ length (on_line idles body))
body_end idles body {os} {os₁} {e} p =
    let n : length (lead ++ body) ≡ 8 + length body = simp (length-append, lead_size_lem) in
    let size = line_size idles body in
    (omega (arith, p.goes), omega (arith, p.goes))

frame_laid : (idles : ℕ) (body : List ℕ) {os ms os₁ os' ms' : List ℕ} {e r : ℕ} → Put os 0 (lead ++ body) e os₁ → Put os₁ e (end_of idles os₁ e) r os'
    → Put ms 0 (frame_marks idles r) r ms' → length (on_line idles body) ≤ length os → length (on_line idles body) ≤ length ms
    → Laid os ms 0 (on_line idles body) r os' ms'
unfolding end_of
frame_laid idles body {os} {ms} {os₁} {os'} {ms'} {e} {r} front end marks room room' =
    let size = line_size idles body in
    let n : length (lead ++ body) ≡ lead_size + length body = simp (length-append, lead_size_lem) in
    let whole = front ⨾ rw (covered front (omega (arith, front.goes))) at end in
    let k : length ((lead ++ body) ++ (fcs body ++ gap_octets idles)) ≡ length (on_line idles body) =
    ap length (sym (line_octets idles body)) ∙ length-octets_of (on_line idles body) in
    let last : r ≡ 13 + idles + length body = omega (arith, whole.goes) in
    let m = marks_size idles r (omega arith) in
    record {
      goes = omega arith;
      octets = put-overwrite whole (omega arith) ∙ ap (overwrite os 0) (sym (line_octets idles body));
      marks = put-overwrite marks (omega arith) ∙ ap (overwrite ms 0) (ap (frame_marks idles) last ∙ sym (line_marks idles body));
    }

pub idle_laid : (n : ℕ) {os ms os' ms' : List ℕ} {place e r : ℕ} → Put os place (replicate n idle) e os' → Put ms place (replicate n 1) r ms'
    → place + n ≤ length os → place + n ≤ length ms → Laid os ms place (idle_symbols n) r os' ms'
idle_laid n {os} {ms} {os'} {ms'} {place} {e} {r} octets marks room room' =
    let i = length-replicate {A = ℕ} n idle in
    let o = length-replicate {A = ℕ} n 1 in
    let k = idle_size n in
    record {
      goes = omega (arith, marks.goes);
      octets = put-overwrite octets (omega arith) ∙ ap (overwrite os place) (sym (idle-octets n));
      marks = put-overwrite marks (omega arith) ∙ ap (overwrite ms place) (sym (idle-marks n));
    }

-- ---- what is written through lent parts

lent_back : {os ms : List ℕ} {place : ℕ} {new : List Symbol} {n : ℕ} {os' ms' : List ℕ} → place ≤ length os → place ≤ length ms
    → Laid (mid_of place (length os - place) os) (mid_of place (length ms - place) ms) 0 new n os' ms'
    → Laid os ms place new (place + n) (put_mid place (length os - place) os os') (put_mid place (length ms - place) ms ms')
lent_back {os} {ms} {place} {new} {n} {os'} {ms'} h g l =
    record {
      goes = omega (arith, l.goes);
      octets = put-part os place (octets_of new) os' h l.octets;
      marks = put-part ms place (marks_of new) ms' g l.marks;
    }

pub part_size : (l : List ℕ) (at : ℕ) → length (mid_of at (length l - at) l) ≡ length l - at
part_size l at = length-take-le (length l - at) (drop at l) (omega (arith, length-drop at l))

-- a frame that is written and finished through the lent parts
pub frame_at : (idles : ℕ) (body : List ℕ) {os ms os₁ os' ms' : List ℕ} {place e r : ℕ} → place + length (on_line idles body) ≤ length os
    → place + length (on_line idles body) ≤ length ms → Put (mid_of place (length os - place) os) 0 (lead ++ body) e os₁
    → Put os₁ e (end_of idles os₁ e) r os' → Put (mid_of place (length ms - place) ms) 0 (frame_marks idles r) r ms'
    → Laid os ms place (on_line idles body) (place + r) (put_mid place (length os - place) os os') (put_mid place (length ms - place) ms ms')
frame_at idles body {os} {ms} {os₁} {os'} {ms'} {place} {e} {r} h g front end marks =
    let o = part_size os place in
    let m = part_size ms place in
    lent_back (omega arith) (omega arith) (frame_laid idles body front end marks (omega arith) (omega arith))
