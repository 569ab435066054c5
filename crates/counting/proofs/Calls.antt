-- A sending call with totals, once its tests up to 22 have answered: refused, or made and its blocks counted anew. Assumes nothing.
use Rattle.std.specs.Prelude.{Err, Ok}
use Rattle.station.specs.Numbers.{Checked}
use Prim.Native.Nat.{ℕ, ◌≤◌}
use native.Mathlib.Omega.{arith}
use mathlib.Core.Path.{◌≡◌, refl, sym, ap, ◌∙◌}
use mathlib.Core.List.{List}
use lib.ListN.{length}
use Rattle.line.specs.Line.{Symbol, capture, octets_of, marks_of}
use Rattle.line.specs.Table.{first}
use Rattle.line.proofs.Buffers.{length-octets_of, length-marks_of}
use Rattle.line.proofs.Overwrite.{length-overwrite}
use Rattle.station.specs.declared.Settings.{Settings}
use Rattle.station.specs.declared.State.{State}
use Rattle.station.specs.declared.Port.{Port}
use Rattle.station.specs.declared.Quanta.{Quanta}
use Rattle.station.specs.declared.Refusal.{Refusal}
use Rattle.station.specs.declared.Refusal.TheVariants.{BadSettings, BadBuffers, BadPlace, HighDeficit, WrongTotals, HighTotal}
use Rattle.station.specs.Station.{is_pause_mode, is_pfc_mode}
use Rattle.station.proofs.Refusals.{fine_row}
use Rattle.writing.specs.declared.Client.{Client}
use Rattle.writing.specs.declared.Classes.{Classes}
use Rattle.writing.specs.Frames.{client_body, pause_body, pfc_body, idle_symbols}
use Rattle.writing.specs.Gaps.{gap_on, symbols_on}
use Rattle.send.specs.declared.Sending.{Sending}
use Rattle.send.specs.Sending.{SendCall, send_call, send_checked, refused_at, pause_checked, pfc_checked, idle_checked, frame_sending, client_sending, pause_sending, pfc_sending, idle_sending}
use Rattle.send.proofs.Refusals.{Room, Framed, inside-port, passed, passed_control, passed-idle}
use Rattle.totals.specs.Totals.{blocks, recounted}
use Rattle.totals.proofs.Tests.{Known, same_length, as_many}
use Rattle.counting.specs.Counting.{counting, frame_totals, count_checked}

-- ---- the answer

module _ (early : Checked) (st : State) (os ms : List ℕ) (place : ℕ) (ts : List ℕ) (base : SendCall) where
  pub count-refused : {r : Sending} (x : Refusal) → early ≡ Err x → r ≡ refused_at x place st → counting r os ms ts ≡ count_checked early st os ms place ts base
  unfolding count_checked
  count-refused x h e = ap (λ (q : Sending). counting q os ms ts) e ∙ sym (ap (λ (q : Checked). count_checked q st os ms place ts base) h)

  pub count-made : {r : Sending} {os' ms' ts' : List ℕ} → early ≡ Ok tt → send_call r os' ms' ≡ base → ts' ≡ recounted (capture os' ms') place r.place ts
      → counting r os' ms' ts' ≡ count_checked early st os ms place ts base
  unfolding count_checked
  count-made {r} {os'} {ms'} h e t =
      ap (counting r os' ms') t
      ∙ ap (λ (x : SendCall). record { sent = x; totals = recounted (capture x.octets x.marks) place x.given.place ts }) e
      ∙ sym (ap (λ (q : Checked). count_checked q st os ms place ts base) h)

-- ---- what a call leaves, and what is known of one that is not refused

-- what a call leaves of its buffers and place, refused or not
pub record Leaves (os : List ℕ) (place : ℕ) (b : SendCall) : Type 0 where
  pub octets : length b.octets ≡ length os
  pub even : length b.octets ≡ length b.marks
  pub inside : b.given.place ≤ length b.octets

module _ (st : State) (os ms : List ℕ) (place : ℕ) (new : List Symbol) (count : ℕ) (even : length os ≡ length ms) (inside : place ≤ length os) where
  pub leaves : (k : Checked) → (k ≡ Ok tt → Room os ms place new) → Leaves os place (send_checked k st os ms place new count)
  unfolding send_checked
  leaves (Err x) h = record { octets = refl; even = even; inside = inside }
  leaves (Ok _) h =
      let r = (h refl).room in
      let no = length-octets_of new in
      let nm = length-marks_of new in
      let lo = length-overwrite os place (octets_of new) (omega arith) in
      let lm = length-overwrite ms place (marks_of new) (omega arith) in
      record { octets = lo; even = omega arith; inside = omega arith }

-- what is known of a frame that goes, as a writing
pub framed_room : {s : Settings} {port : Port} {count : ℕ} {os ms : List ℕ} {place : ℕ} {body : List ℕ} → Framed s port count os ms place body
    → Room os ms place (symbols_on port count place body)
framed_room k = record { even = k.even; small = k.small; room = k.room }

-- what the tests up to 22 of a frame's call tell
pub known_frame : (s : Settings) (port : Port) (count : ℕ) (os ms : List ℕ) (place : ℕ) (ts : List ℕ)
    → first (frame_totals s port count os ms place ts) ≡ Ok tt → Known os ms place ts
unfolding frame_totals
known_frame s port count os ms place ts h =
    let r1 = fine_row BadSettings _ h in
    let r2 = fine_row BadBuffers _ r1.1 in
    let r3 = fine_row BadPlace _ r2.1 in
    let r19 = fine_row HighDeficit _ r3.1 in
    let r21 = fine_row WrongTotals _ r19.1 in
    let r22 = fine_row HighTotal _ r21.1 in
    let b = same_length os ms r2.0 in
    record { even = b.0; small = b.1; inside = inside-port port os place r3.0; count = as_many os ts r21.0; low = r22.0 }

-- ---- what the new count asks for

pub record Countable (os ms : List ℕ) (to : ℕ) (ts : List ℕ) : Type 0 where
  pub even : length os ≡ length ms
  pub inside : to ≤ length os
  pub count : length ts ≡ blocks (length os)

pub countable : {os ms : List ℕ} {place : ℕ} {ts os' ms' : List ℕ} {r : Sending} (base : SendCall)
    → Known os ms place ts → Leaves os place base → send_call r os' ms' ≡ base → Countable os' ms' r.place ts
countable {os} {ms} {place} {ts} {os'} {ms'} {r} base k l e =
    let o : length os' ≡ length base.octets = ap (λ (x : SendCall). length x.octets) e in
    let m : length ms' ≡ length base.marks = ap (λ (x : SendCall). length x.marks) e in
    let p : r.place ≡ base.given.place = ap (λ (x : SendCall). x.given.place) e in
    let lo = l.octets in
    let lm = l.even in
    let li = l.inside in
    record { even = omega arith; inside = omega arith; count = k.count ∙ ap blocks (sym (o ∙ lo)) }

-- ---- each call

module _ (st : State) (os ms : List ℕ) (place : ℕ) (ts : List ℕ) (k : Known os ms place ts) where
  frame_leaves : (s : Settings) (port : Port) (body : List ℕ) (c : Checked) → (c ≡ Ok tt → Framed s port st.deficit os ms place body)
      → Leaves os place (frame_sending c st port os ms place body)
  unfolding frame_sending
  frame_leaves s port body c h =
      leaves st os ms place (symbols_on port st.deficit place body) (gap_on port st.deficit place body).count k.even k.inside c
      (λ f. framed_room (h f))

  pub client_leaves : (s : Settings) (port : Port) (c : Client) (d : List ℕ) → Leaves os place (client_sending s st port os ms place c d)
  unfolding client_sending
  client_leaves s port c d = frame_leaves s port (client_body s c d) _ (λ f. (passed s st port os ms place c d f).framed)

  pub pause_leaves : (s : Settings) (port : Port) (q : Quanta) → Leaves os place (pause_sending s st port os ms place q)
  unfolding pause_sending pause_checked
  pause_leaves s port q =
      frame_leaves s port (pause_body s q) _ (λ f. (passed_control s port st.deficit os ms place (is_pause_mode s.flow) (pause_body s q) f).1)

  pub pfc_leaves : (s : Settings) (port : Port) (c : Classes) → Leaves os place (pfc_sending s st port os ms place c)
  unfolding pfc_sending pfc_checked
  pfc_leaves s port c =
      frame_leaves s port (pfc_body s c) _ (λ f. (passed_control s port st.deficit os ms place (is_pfc_mode s.flow) (pfc_body s c) f).1)

  pub idle_leaves : (n : ℕ) → Leaves os place (idle_sending st os ms place n)
  unfolding idle_sending
  idle_leaves n = leaves st os ms place (idle_symbols n) st.deficit k.even k.inside (idle_checked os ms place n) (λ f. passed-idle os ms place n f)
